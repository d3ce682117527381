-- The factor rows that bytes begin with.
use Rattle.std.specs.Prelude.{ℕ, List, [], ◌∷◌, Result}
use Rattle.refusals.specs.declared.refusal.Refusal.{Refusal}
use Rattle.domain.specs.declared.factor.FactorRow.{FactorRow}
use Rattle.feed.specs.declared.kind.Kind.TheVariants.{Factor}
use Rattle.feed.specs.Frames.{IsFramed, first_note, rest_after_first}
use Rattle.feed.specs.Kinds.{IsOfKind}
use Rattle.feed.specs.Readings.{ReadsFactorRow}

-- the bytes begin with a note of the kind of factor rows
abbrev pub StartsWithFactorRow : List ℕ → Type 0
StartsWithFactorRow bs = IsFramed bs × IsOfKind Factor (first_note bs)

-- the bytes begin with these notes of factor rows, in order; what is left after them begins with no such note
pub data StartsWithFactorRows : List ℕ → List (List ℕ) → List ℕ → Type 0 where
  row : {bs left : List ℕ} {notes : List (List ℕ)} → StartsWithFactorRow bs
      → StartsWithFactorRows (rest_after_first bs) notes left → StartsWithFactorRows bs (first_note bs ∷ notes) left
  ended : {bs : List ℕ} → (StartsWithFactorRow bs → ⊥) → StartsWithFactorRows bs [] bs

-- the results of reading each of the notes as a factor row, in their order
pub data ReadsEachRow : List (List ℕ) → List (Result FactorRow Refusal) → Type 0 where
  none : ReadsEachRow [] []
  one : {note : List ℕ} {notes : List (List ℕ)} {r : Result FactorRow Refusal} {rs : List (Result FactorRow Refusal)}
      → ReadsFactorRow note r → ReadsEachRow notes rs → ReadsEachRow (note ∷ notes) (r ∷ rs)
