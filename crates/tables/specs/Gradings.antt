-- The emissions at which a building is given a grade.
use Rattle.std.specs.Prelude.{ℕ, ◌+◌, ◌-◌, ◌*◌, ◌≤◌, pos}
use Rattle.domain.specs.declared.building.BuildingNumbers.{BuildingNumbers}
use Rattle.grades.specs.Grades.{IsAwarded}

-- the building is given the grade, or a higher one, at the given grams from the energy of its use
unfoldable pub IsGiven : ℕ → BuildingNumbers → ℕ → Type 0
IsGiven grade b grams = (n : ℕ) → IsAwarded b (pos grams) n → grade ≤ n

-- it is given the grade, or a higher one, but would not be with one gram more
pub record IsJustGiven (grade : ℕ) (b : BuildingNumbers) (grams : ℕ) : Type 0 where
  pub given : IsGiven grade b grams
  pub no_more : IsGiven grade b (grams + 1) → ⊥

-- it is given the grade within a limit, for one square metre and one year: 100 grams for each tenth of a kilogram
abbrev pub IsGivenWithin : ℕ → BuildingNumbers → ℕ → Type 0
IsGivenWithin grade b limit = IsGiven grade b (100 * limit)

-- it is just given the grade at the given per cent below the highest reference, of which each is 10,000 grams
abbrev pub IsGivenBelow : ℕ → BuildingNumbers → ℕ → Type 0
IsGivenBelow grade b share = IsJustGiven grade b (10000 * (100 - share))
