-- The ratios of the grades, from the zero-carbon draft: by how many per cent a building has to be below its reference.
use Rattle.std.specs.Prelude.{ℕ, ◌-◌, List, [], ◌∷◌, slice_index}

-- in the order of the regions
abbrev pub low_carbon_ratios : List ℕ
low_carbon_ratios = 40 ∷ 35 ∷ 30 ∷ 30 ∷ 30 ∷ []

abbrev pub near_zero_ratios : List ℕ
near_zero_ratios = 55 ∷ 50 ∷ 45 ∷ 45 ∷ 45 ∷ []

-- the ratio of a region
abbrev pub ratio : List ℕ → ℕ → ℕ
ratio ratios region = slice_index ratios (region - 1)
