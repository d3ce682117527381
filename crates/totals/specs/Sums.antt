-- The sums of totals over any choice of rows.
use Rattle.std.specs.Prelude.{ℕ, ◌+◌, Bool, if◌then◌else◌, List, [], ◌∷◌, ℤ, pos, ◌+ℤ◌}
use Rattle.totals.specs.declared.totals.Totals.{Totals}

-- the sum over chosen rows, of values that each have the number of their row
module _ {X : Type 0} (none : X) (plus : X → X → X) (choice : ℕ → Bool) where
  unfoldable pub sum_in : List (ℕ × X) → X
  sum_in [] = none
  sum_in (v ∷ vs) = if choice v.0 then plus v.1 (sum_in vs) else sum_in vs

-- the signed grams in chosen rows
abbrev pub grams_in : (ℕ → Bool) → List (ℕ × ℤ) → ℤ
grams_in choice = sum_in (pos 0) ◌+ℤ◌ choice

-- the number of entries in chosen rows
abbrev pub count_in : (ℕ → Bool) → List (ℕ × ℕ) → ℕ
count_in choice = sum_in 0 ◌+◌ choice

-- values with the numbers of their rows, the first of them in row k
unfoldable pub numbered_rows : {X : Type 0} → ℕ → List X → List (ℕ × X)
numbered_rows k [] = []
numbered_rows k (x ∷ xs) = (k, x) ∷ numbered_rows (k + 1) xs

-- the sums over any choice of rows: grams, and the number of entries that they are of
pub record Sums : Type 0 where
  pub grams : (ℕ → Bool) → ℤ
  pub counts : (ℕ → Bool) → ℕ

-- the sums of totals, whose values stand in the order of their rows
abbrev pub sums_of : Totals → Sums
sums_of t = record {
  grams = λ choice. grams_in choice (numbered_rows 1 t.grams);
  counts = λ choice. count_in choice (numbered_rows 1 t.counts);
}
