-- A feed has one listing.
use Rattle.std.proofs.Common.{◌≡◌, ℕ, ◌+◌, List, [], ◌∷◌, ◌++◌, length, Some, None, Ok, Err, codes, decimal, Option, Result, sym, refl, ap, ◌∙◌, subst, ⊎_elim, arith}
use Rattle.std.specs.Fmt.{signed_decimal}
use Rattle.feed.specs.declared.note.Note.{Note}
use Rattle.refusals.specs.declared.refusal.Refusal.{Refusal}
use Rattle.domain.specs.declared.entry.Entry.{Entry}
use Rattle.booking.specs.Booking.{LineNumbers}
use Rattle.booking.specs.Rows.{is_subtracted}
use Rattle.booking.specs.Emissions.{signed_grams}
use Rattle.booking.proofs.OneResult.{books_once, same_codes}
use Rattle.listing.proofs.NoteTexts.{says_one}
use Rattle.feed.specs.Frames.{IsFramed, first_note, note_kind}
use Rattle.feed.specs.Kinds.{kind_of}
use Rattle.feed.specs.Notes.{IsAnyKind, Says}
use Rattle.domain.specs.FieldTexts.{spaced_field}
use Rattle.feed.specs.Readings.{reading_conditions, Reads}
use Rattle.refusals.specs.Refusals.{lack_number, refusal_codes}
use Rattle.refusals.specs.RefusalTexts.{refusal_text}
use Rattle.refusals.proofs.RefusalNumbers.{no_codes, same_words}
use Rattle.refusals.proofs.Deciding.{SameAnswer, answer_unique, absent_not_least}
use Rattle.feed.proofs.Framing.{framed_front, framed_or_not, front_only}
use Rattle.listing.specs.declared.outcome.Outcome.{Outcome}
use Rattle.listing.specs.declared.outcome.Outcome.TheVariants.{Booked, Refused, Unbooked}
use Rattle.listing.specs.ListingLines.{kind_word_or_unknown, entry_of, IsRefusedText, IsOutcome, outcome_text, IsNoteOutcome, outcome_suffix, IsNoteText, IsAnswerText, IsStatement, placed_line, IsLine}
use Rattle.listing.specs.Bases.{Basis, unbooked, by, basis_with}
use Rattle.listing.specs.Listings.{IsLastLine, Lists, note, last, ListsFeed}
use Rattle.listing.proofs.OneBasis.{basis_only}

-- reading never refuses by `FactorLacking` (8), so its refusals name no codes
names_none : (bs : List ℕ) (f : Refusal) → Reads {X = Note} IsAnyKind Says bs (Err f) → refusal_codes f ≡ []
names_none bs f least = no_codes f (absent_not_least (reading_conditions IsAnyKind bs) lack_number refl least)

refused_only : (bs : List ℕ) (f g : Refusal) (s t : List ℕ) → refusal_text f ≡ refusal_text g → IsRefusedText bs f s → IsRefusedText bs g t → s ≡ t
refused_only bs f g s t same a b =
    ⊎_elim (λ framed. a.note framed ∙ ap (λ x. kind_word_or_unknown (kind_of (note_kind (first_note bs))) ++ (spaced_field (codes "kind", note_kind (first_note bs)) ++ (spaced_field (codes "length", length (first_note bs)) ++ (codes " " ++ x)))) same ∙ sym (b.note framed))
    (λ unframed. a.unframed unframed ∙ ap (λ x. codes "unframed" ++ (spaced_field (codes "left", length bs) ++ (codes " " ++ x))) same ∙ sym (b.unframed unframed))
    (framed_or_not bs)

-- the text of a line, by its numbers
line_text_same : LineNumbers → List ℕ
line_text_same b = codes "thousandths=" ++ (decimal b.thousandths ++ (codes " grams=" ++ signed_decimal (signed_grams (is_subtracted b.row) b.grams)))

outcome_only : (a : Basis) (e : Entry) (o p : Outcome) → IsOutcome a e o → IsOutcome a e p → outcome_text o ≡ outcome_text p
unfolding line_text_same
outcome_only unbooked e o p is is' = ap outcome_text (is ∙ sym is')
outcome_only (by y factor_map) e (Booked l) (Booked m) is is' = ap line_text_same (books_once y factor_map e (Ok l) (Ok m) is is')
outcome_only (by y factor_map) e (Booked l) (Refused g) is is' = absurd (books_once y factor_map e (Ok l) (Err g) is is')
outcome_only (by y factor_map) e (Booked l) Unbooked is is' = absurd is'
outcome_only (by y factor_map) e (Refused f) (Booked m) is is' = absurd (books_once y factor_map e (Err f) (Ok m) is is')
outcome_only (by y factor_map) e (Refused f) (Refused g) is is' = let same = books_once y factor_map e (Err f) (Err g) is is' in same_words f g same (same_codes y factor_map e f g same is is')
outcome_only (by y factor_map) e (Refused f) Unbooked is is' = absurd is'
outcome_only (by y factor_map) e Unbooked p is is' = absurd is

booked_only : (a : Basis) (e : Option Entry) (o p : Option Outcome) → IsNoteOutcome a e o → IsNoteOutcome a e p → outcome_suffix o ≡ outcome_suffix p
booked_only a None None None is is' = refl
booked_only a None None (Some p) is is' = absurd is'
booked_only a None (Some o) p is is' = absurd is
booked_only a (Some e) None p is is' = absurd is
booked_only a (Some e) (Some o) None is is' = absurd is'
booked_only a (Some e) (Some o) (Some p) is is' = ap (λ t. codes " " ++ t) (outcome_only a e o p is is')

note_only : (a : Basis) (bytes : List ℕ) (m n : Note) (s t : List ℕ) → Says bytes m → Says bytes n → IsNoteText a m s → IsNoteText a n t → s ≡ t
note_only a bytes m n s t says says' p q =
    let one = says_one bytes m n says says' in
    let booked = booked_only a (entry_of m) p.outcome q.outcome p.books (subst (λ e. IsNoteOutcome a e q.outcome) (sym one.1) q.books) in
    p.text ∙ (λ i. one.0 i ++ booked i) ∙ sym q.text

-- the text of bytes depends on them alone
answer_text_only : (a : Basis) (bs s t : List ℕ) (p q : Result Note Refusal) → Reads IsAnyKind Says bs p → Reads IsAnyKind Says bs q → SameAnswer (λ m n. Unit {0}) p q → IsAnswerText a bs p s → IsAnswerText a bs q t → s ≡ t
answer_text_only a bs s t (Ok m) (Ok n) reads reads' same text text' = note_only a (first_note bs) m n s t reads.1 reads'.1 text text'
answer_text_only a bs s t (Ok m) (Err g) reads reads' same text text' = absurd same
answer_text_only a bs s t (Err f) (Ok n) reads reads' same text text' = absurd same
answer_text_only a bs s t (Err f) (Err g) reads reads' same text text' =
    let none = names_none bs f reads ∙ sym (names_none bs g reads') in
    refused_only bs f g s t (same_words f g same none) text text'

tells_only : {a : Basis} {bs s t : List ℕ} → IsStatement a bs s → IsStatement a bs t → s ≡ t
tells_only {a} {bs} {s} {t} x y =
    let same = answer_unique (reading_conditions IsAnyKind bs) (Says (first_note bs)) (Says (first_note bs)) (λ m n. Unit {0}) (λ m n p q. tt) x.answer y.answer x.read y.read in
    answer_text_only a bs s t x.answer y.answer x.read y.read same x.tells y.tells

pub line_only : {a : Basis} {k at : ℕ} {bs l m : List ℕ} → IsLine a k at bs l → IsLine a k at bs m → l ≡ m
line_only {a} {k} {at} x y =
    x.text ∙ ap (placed_line k at) (tells_only x.tells y.tells) ∙ sym y.text

last_only : (a : Basis) (k at : ℕ) (bs l m : List ℕ) → IsLastLine a k at bs l → IsLastLine a k at bs m → l ≡ m
last_only a k at [] l m p q = p.none refl ∙ sym (q.none refl)
last_only a k at (x ∷ bs) l m p q = line_only (p.some (omega arith)) (q.some (omega arith))

lists_only : (a : Basis) (k at : ℕ) (bs s t : List ℕ) → Lists a k at bs s → Lists a k at bs t → s ≡ t
lists_only a k at bs s t (note n rest l more one cut line rests text) (note n' rest' l' more' one' cut' line' rests' text') =
    let same = front_only n rest n' rest' one one' (sym cut ∙ cut') in
    let line'' = subst (λ b. IsLine a k at b l') (sym same.0) line' in
    let rests'' : Lists a (k + 1) (at + length n) rest more' = rw (same.0, same.1) rests' in
    text ∙ (λ i. line_only line line'' i ++ lists_only a (k + 1) (at + length n) rest more more' rests rests'' i) ∙ sym text'
lists_only a k at bs s t (note n rest l more one cut line rests text) (last unframed left) = absurd (unframed (subst IsFramed (sym cut) (framed_front n rest one)))
lists_only a k at bs s t (last unframed left) (note n rest l more one cut line rests text) = absurd (unframed (subst IsFramed (sym cut) (framed_front n rest one)))
lists_only a k at bs s t (last unframed left) (last unframed' left') = last_only a k at bs s t left left'

pub listing_only : {feed s t : List ℕ} → ListsFeed feed s → ListsFeed feed t → s ≡ t
listing_only {feed} {s} {t} p q =
    let same = basis_only feed p.building q.building p.rows q.rows p.begins q.begins in
    lists_only (basis_with p.building p.rows) 1 0 feed s t p.lists (subst (λ a. Lists a 1 0 feed t) (sym same) q.lists)
