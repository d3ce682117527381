-- The factor rows that bytes begin with: there is one list of them, and a reader hands them out.
use Rattle.std.proofs.Common.{◌≡◌, ℕ, ◌+◌, List, [], ◌∷◌, ◌++◌, Some, None, Ok, Result, sym, refl, subst, append-nil}
use Rattle.refusals.specs.declared.refusal.Refusal.{Refusal}
use Rattle.domain.specs.declared.factor.FactorRow.{FactorRow}
use Rattle.feed.specs.declared.reader.Part.{Part}
use Rattle.feed.specs.declared.reader.Reader.{Reader}
use Rattle.feed.specs.Feeds.{ReaderAnswer, part_bytes, rest_of, HandsOutFactorRow, ReaderHistory, called}
use Rattle.feed.specs.Frames.{first_note, rest_after_first}
use Rattle.feed.specs.Readings.{ReadsFactorRow}
use Rattle.feed.specs.FactorRows.{StartsWithFactorRows, row, ended, ReadsEachRow, none, one}
use Rattle.feed.proofs.ReaderLoop.{SoFar, none_yet, one_more, all}
use Rattle.feed.proofs.ReaderLaw.{hands_left, hands_next}

pub rows_only : (bs : List ℕ) (notes notes' : List (List ℕ)) (left left' : List ℕ) → StartsWithFactorRows bs notes left → StartsWithFactorRows bs notes' left' → (notes ≡ notes') × (left ≡ left')
rows_only bs notes notes' left left' (row {notes = ns} first more) (row {notes = ns'} first' more') =
    let same = rows_only (rest_after_first bs) ns ns' left left' more more' in
    (λ i. first_note bs ∷ same.0 i, same.1)
rows_only bs notes notes' left left' (row first more) (ended other) = absurd (other first)
rows_only bs notes notes' left left' (ended other) (row first more) = absurd (other first)
rows_only bs notes notes' left left' (ended other) (ended other') = (refl, refl)

-- reading the factor rows that bs begins with gives these results, and this is left after them
pub record RowsAnswered (left : List ℕ) (bs : List ℕ) (answers : List (Result FactorRow Refusal)) : Type 0 where
  pub notes : List (List ℕ)
  pub rows : StartsWithFactorRows bs notes left
  pub read : ReadsEachRow notes answers

-- the reader r was `start` and has handed out factor rows since, with these results of reading them
pub record RowsSoFar (feed : List ℕ) (start r : Reader) (answers : List (Result FactorRow Refusal)) : Type 0 where
  pub calls : List ReaderAnswer
  pub history : ReaderHistory feed calls r
  pub so_far : (left : List ℕ) → SoFar (λ k at. RowsAnswered left) (start.handed_out + 1) start.start (rest_of start) r answers

pub no_rows_yet : {feed : List ℕ} {calls : List ReaderAnswer} (r : Reader) {answers : List (Result FactorRow Refusal)} → ReaderHistory feed calls r → answers ≡ [] → RowsSoFar feed r r answers
no_rows_yet r history empty = record { calls = _; history = history; so_far = λ left. none_yet (λ k at. RowsAnswered left) r empty }

module _ {feed : List ℕ} {start r : Reader} {answers : List (Result FactorRow Refusal)} (old : RowsSoFar feed start r answers) where
  pub row_more : {p : Part} {t : Reader} {longer : List (Result FactorRow Refusal)} (a : Result FactorRow Refusal) → HandsOutFactorRow r (Some p) t → ReadsFactorRow (part_bytes p) a → longer ≡ answers ++ (a ∷ []) → RowsSoFar feed start t longer
  row_more {p} {t} a step reads is =
      record {
        calls = Ok (Some p) ∷ old.calls;
        history = called old.history step.1;
        so_far = λ left.
            one_more (λ k at. RowsAnswered left) (old.so_far left) (a ∷ []) step.1 is
            (λ more found. record {
              notes = part_bytes p ∷ found.notes;
              rows = subst (λ bs. StartsWithFactorRows bs (part_bytes p ∷ found.notes) left) (sym (hands_next r p t step.1))
                  (subst (λ note. StartsWithFactorRows (rest_of r) (note ∷ found.notes) left) (sym step.1.note) (row step.0 (subst (λ bs. StartsWithFactorRows bs found.notes left) (hands_left r p t step.1) found.rows)));
              read = one reads found.read;
            });
      }

  pub no_row_more : {t : Reader} → HandsOutFactorRow r None t → RowsAnswered (rest_of t) (rest_of start) answers
  no_row_more {t} step =
      all (λ k at. RowsAnswered (rest_of t)) (old.so_far (rest_of t)) (record { notes = []; rows = rw step.1 (ended step.0); read = none }) (sym (append-nil answers))
