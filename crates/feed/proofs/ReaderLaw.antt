-- The law over all calls of one reader.
use Rattle.std.proofs.Common.{◌≡◌, ℕ, ◌+◌, List, [], ◌∷◌, ◌++◌, length, drop, Some, None, Ok, Err, sym, refl, ap, ◌∙◌, subst, append_assoc, arith, length-append}
use Rattle.std.proofs.lemmas.List.{flat_map_more, drop-drop, length_push}
use Rattle.std.proofs.lemmas.List.Elements.{All-push}
use Rattle.std.specs.List.{flat_map, All}
use Rattle.feed.specs.declared.reader.Part.{Part}
use Rattle.feed.specs.declared.reader.Reader.{Reader}
use Rattle.refusals.proofs.RefusalNumbers.{number_one}
use Rattle.feed.specs.Feeds.{ReaderAnswer, part_bytes, rest_of, HandsOut, Stays, IsEndAnswer, AnswersNext, ReaderHistory, opened, called, handed_parts, AreConsecutive, IsRepeated, EndsTruly, IsLawfulReader}
use Rattle.feed.specs.Frames.{IsOneNote, rest_after_first}
use Rattle.feed.proofs.Framing.{one_first, first_whole}

-- after a note is handed out, what comes after it in the feed is left
pub hands_left : (r : Reader) (p : Part) (t : Reader) → HandsOut r p t → rest_of t ≡ rest_after_first (rest_of r)
hands_left r p t step = rw (step.bytes, step.over) (sym (drop-drop (length (part_bytes p)) r.start r.feed.now) ∙ ap (λ note. drop (length note) (rest_of r)) step.note)

-- the note that is handed out, followed by what is left then, is what was left before
pub hands_next : (r : Reader) (p : Part) (t : Reader) → HandsOut r p t → part_bytes p ++ rest_of t ≡ rest_of r
hands_next r p t step = rw (hands_left r p t step, step.note) (first_whole (rest_of r) step.framed)

pub hands_note : (r : Reader) (p : Part) (t : Reader) → HandsOut r p t → IsOneNote (part_bytes p)
hands_note r p t step = subst IsOneNote (sym step.note) (one_first (rest_of r) step.framed)

pub stays_left : (r t : Reader) → Stays r t → rest_of t ≡ rest_of r
stays_left r t stays = rw (stays.bytes, stays.over)

consecutive_push : (k at : ℕ) (ps : List Part) (p : Part) → AreConsecutive k at ps → p.place ≡ k + length ps → p.start ≡ at + length (flat_map part_bytes ps) → AreConsecutive k at (ps ++ (p ∷ []))
consecutive_push k at [] p placed place start = (omega arith, omega arith, tt)
consecutive_push k at (q ∷ ps) p placed place start =
    (placed.0, placed.1, consecutive_push (k + 1) (at + length (part_bytes q)) ps p placed.2 (omega arith) (omega (arith, length-append (part_bytes q) (flat_map part_bytes ps))))

-- what holds of the results of a reader so far
record SoFar (feed : List ℕ) (answers : List ReaderAnswer) (r : Reader) : Type 0 where
  whole : flat_map part_bytes (handed_parts answers) ++ rest_of r ≡ feed
  bytes : r.start ≡ length (flat_map part_bytes (handed_parts answers))
  count : r.handed_out ≡ length (handed_parts answers)
  notes : All (λ p. IsOneNote (part_bytes p)) (handed_parts answers)
  places : AreConsecutive 1 0 (handed_parts answers)
  again : IsRepeated answers
  ends : EndsTruly answers (rest_of r)

-- where a call returned no note, the next call returns the same
same_again : (r t : Reader) (a b : ReaderAnswer) → IsEndAnswer b (rest_of r) → AnswersNext r a t → a ≡ b
same_again r t a (Ok (Some p)) spent step = absurd spent
same_again r t (Ok (Some q)) (Ok None) spent step = let e = ap length spent in absurd (omega (arith, step.framed.head))
same_again r t (Ok None) (Ok None) spent step = refl
same_again r t (Err g) (Ok None) spent step = let e = ap length spent in absurd (omega (arith, step.0.0))
same_again r t (Ok (Some q)) (Err f) spent step = absurd (spent.1 step.framed)
same_again r t (Ok None) (Err f) spent step = let e = ap length step.0 in absurd (omega (arith, spent.0))
same_again r t (Err g) (Err f) spent step = ap Err (number_one g step.0.2 ∙ sym (number_one f spent.2))

module _ (feed : List ℕ) where
  again_more : (answers : List ReaderAnswer) (r t : Reader) (a : ReaderAnswer) → SoFar feed answers r → AnswersNext r a t → IsRepeated (a ∷ answers)
  again_more [] r t a old step = tt
  again_more (Ok (Some p) ∷ before) r t a old step = (tt, old.again)
  again_more (Ok None ∷ before) r t a old step = (same_again r t a (Ok None) old.ends step, old.again)
  again_more (Err f ∷ before) r t a old step = (same_again r t a (Err f) old.ends step, old.again)

  module _ (answers : List ReaderAnswer) (r t : Reader) (old : SoFar feed answers r) where
    -- a result that is no note leaves the reader as it was
    stays : (a : ReaderAnswer) → handed_parts (a ∷ answers) ≡ handed_parts answers → IsRepeated (a ∷ answers) → EndsTruly (a ∷ answers) (rest_of r) → Stays r t → SoFar feed (a ∷ answers) t
    stays a same again ends stay =
        let left = stays_left r t stay in
        record {
          whole = rw (same, left) old.whole;
          bytes = rw (same, stay.bytes) old.bytes;
          count = rw (same, stay.notes) old.count;
          notes = subst (All (λ p. IsOneNote (part_bytes p))) (sym same) old.notes;
          places = subst (AreConsecutive 1 0) (sym same) old.places;
          again = again;
          ends = subst (EndsTruly (a ∷ answers)) (sym left) ends;
        }

    hands : (p : Part) → HandsOut r p t → SoFar feed (Ok (Some p) ∷ answers) t
    hands p step =
        let ps = handed_parts answers in
        let more : flat_map part_bytes (ps ++ (p ∷ [])) ≡ flat_map part_bytes ps ++ part_bytes p = sym (flat_map_more part_bytes [] ps p) in
        record {
          whole = rw (more, append_assoc) (ap (λ l. flat_map part_bytes ps ++ l) (hands_next r p t step) ∙ old.whole);
          bytes = rw more (omega (arith, step.bytes, old.bytes, length-append (flat_map part_bytes ps) (part_bytes p)));
          count = omega (arith, step.notes, old.count, length_push ps p);
          notes = All-push (λ q. IsOneNote (part_bytes q)) ps p old.notes (hands_note r p t step);
          places = consecutive_push 1 0 ps p old.places (omega (arith, step.place, old.count)) (omega (arith, step.start, old.bytes));
          again = again_more answers r t (Ok (Some p)) old step;
          ends = tt;
        }

    one_more : (a : ReaderAnswer) → AnswersNext r a t → SoFar feed (a ∷ answers) t
    one_more (Ok (Some p)) step = hands p step
    one_more (Ok None) step = stays (Ok None) refl (again_more answers r t (Ok None) old step) step.0 step.1
    one_more (Err f) step = stays (Err f) refl (again_more answers r t (Err f) old step) step.0 step.1

  so_far : (answers : List ReaderAnswer) (r : Reader) → ReaderHistory feed answers r → SoFar feed answers r
  so_far answers r (opened start) =
      record { whole = rw (start.bytes, start.over); bytes = start.bytes; count = start.notes; notes = λ k d h. absurd (omega (arith, h)); places = tt; again = tt; ends = tt }
  so_far answers t (called {before = before} {r = r} {a = a} history step) = one_more before r t (so_far before r history) a step

  pub lawful : (answers : List ReaderAnswer) (r : Reader) → ReaderHistory feed answers r → IsLawfulReader feed answers (rest_of r)
  lawful answers r history =
      let all = so_far answers r history in
      record { whole = all.whole; notes = all.notes; places = all.places; again = all.again; ends = all.ends }

-- the law holds after one more call of the reader
pub lawful_call : (r : Reader) (a : ReaderAnswer) (t : Reader) → AnswersNext r a t → (feed : List ℕ) (before : List ReaderAnswer) → ReaderHistory feed before r → IsLawfulReader feed (a ∷ before) (rest_of t)
lawful_call r a t step feed before history = lawful feed (a ∷ before) t (called history step)
