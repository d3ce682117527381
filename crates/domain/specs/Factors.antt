-- The numbers of a factor, and their ranges.
use Rattle.std.specs.Prelude.{Bool, List, [], ◌∷◌}
use Rattle.domain.specs.declared.factor.Factor.{Factor}
use Rattle.domain.specs.declared.factor.FactorNumbers.{FactorNumbers}
use Rattle.domain.specs.Numbers.{unit_number}
use Rattle.domain.specs.Ranges.{RangedNumber, amount_range, unit_range, AllWithin, all_within}

-- the numbers of a factor, each with its range
abbrev pub factor_ranges : FactorNumbers → List RangedNumber
factor_ranges n = (amount_range, n.amount) ∷ (unit_range, n.unit) ∷ []

-- both numbers of a factor are in range
abbrev pub IsFactorInRange : FactorNumbers → Type 0
IsFactorInRange n = AllWithin (factor_ranges n)

-- the same, as a test
abbrev pub is_factor_in_range : FactorNumbers → Bool
is_factor_in_range n = all_within (factor_ranges n)

-- the numbers of a factor
abbrev pub factor_numbers : Factor → FactorNumbers
factor_numbers f = record { amount = f.amount; unit = unit_number f.unit }
