-- The text of a note does not depend on the value that its bytes are read as.
use Rattle.std.proofs.Common.{◌≡◌, ℕ, List, refl, ap, sym, ◌∙◌, subst, IsSomeAnd}
use Rattle.feed.specs.declared.note.Note.{Note}
use Rattle.feed.specs.declared.note.Note.TheVariants.{Building, Factor, Sent}
use Rattle.feed.specs.Notes.{Says}
use Rattle.feed.specs.SentNotes.{IsSent}
use Rattle.feed.specs.NoteTexts.{note_text}
use Rattle.domain.specs.FieldTexts.{building_text}
use Rattle.listing.specs.ListingLines.{entry_of}

-- bytes have one text and one entry
pub says_one : (note : List ℕ) (m n : Note) → Says note m → Says note n → (note_text m ≡ note_text n) × (entry_of m ≡ entry_of n)
says_one note (Building b) (Building c) says says' = (ap building_text (says.1 ∙ sym says'.1), refl)
says_one note (Factor r) (Factor q) says says' = (ap (λ x. note_text (Factor x)) (says.1 ∙ sym says'.1), refl)
says_one note (Sent s) (Sent t) says says' = let same = says.1 ∙ sym says'.1 in (ap (λ x. note_text (Sent x)) same, ap (λ x. entry_of (Sent x)) same)
says_one note (Building b) (Factor q) says says' = absurd (cc)
says_one note (Factor r) (Building c) says says' = absurd (cc)
says_one note (Building b) (Sent t) says says' = absurd (subst (λ kind. IsSomeAnd kind IsSent) says.0 says'.0)
says_one note (Factor r) (Sent t) says says' = absurd (subst (λ kind. IsSomeAnd kind IsSent) says.0 says'.0)
says_one note (Sent s) (Building c) says says' = absurd (subst (λ kind. IsSomeAnd kind IsSent) says'.0 says.0)
says_one note (Sent s) (Factor q) says says' = absurd (subst (λ kind. IsSomeAnd kind IsSent) says'.0 says.0)
