-- The map of the built-in factors.
use Rattle.std.specs.Prelude.{ℕ, ◌-◌, ◌*◌, if◌then◌else◌, List, [], ◌∷◌, length, ◌==◌, nat_lt, slice_index}
use Rattle.domain.specs.declared.factor.FactorNumbers.{FactorNumbers}
use Rattle.factors.specs.Maps.{FactorMap, has, lacks}
use Rattle.domain.specs.Numbers.{unit_number}
use Rattle.domain.specs.declared.factor_unit.FactorUnit.TheVariants.{KilowattHour, Kilogram}

-- the global warming potentials of the refrigerants, as multiples of that of carbon dioxide
abbrev pub warming_potentials : List ℕ
warming_potentials =
    3500 ∷ 1430 ∷ 4470 ∷ 124 ∷ 3220 ∷ 14800 ∷ 1340 ∷ 1370 ∷ 9810 ∷ 693 ∷ 1030 ∷ 675 ∷ 794 ∷ 92 ∷ 1640 ∷ []

-- a factor of this amount, per unit of this number
abbrev pub factor_per : (amount unit : ℕ) → FactorNumbers
factor_per amount unit = record { amount = amount; unit = unit }

-- grid electricity (1) per kilowatt-hour (3), and from 101 on the refrigerants per kilogram (4)
abbrev pub built_in_map : FactorMap
built_in_map c =
    if c == 1 then has (factor_per 5000 (unit_number KilowattHour))
    else (if nat_lt c 101 then lacks c
    else (if nat_lt (c - 101) (length warming_potentials)
    then has (factor_per (slice_index warming_potentials (c - 101) * 10000) (unit_number Kilogram))
    else lacks c))
