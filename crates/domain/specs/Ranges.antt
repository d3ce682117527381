-- Ranges of numbers, both ends included.
use Rattle.std.specs.Prelude.{ℕ, ◌≤◌, Bool, true, ◌&&◌, nat_le, List, [], ◌∷◌}

-- n is from low to high
abbrev pub IsBetween : ℕ → ℕ → ℕ → Type 0
IsBetween low n high = (low ≤ n) × (n ≤ high)

-- a range by its ends
pub record Range : Type 0 where
  pub least : ℕ
  pub most : ℕ

abbrev pub range_from : ℕ → ℕ → Range
range_from least most = record { least = least; most = most }

-- a number with the range that it has to be in
abbrev pub RangedNumber : Type 0
RangedNumber = Range × ℕ

-- the number is in its range
abbrev pub IsWithin : RangedNumber → Type 0
IsWithin x = IsBetween x.0.least x.1 x.0.most

-- the same, as a test
abbrev pub is_within : RangedNumber → Bool
is_within x = nat_le x.0.least x.1 && nat_le x.1 x.0.most

-- all numbers are in their ranges
abbrev pub AllWithin : List RangedNumber → Type 0
AllWithin [] = Unit {0}
AllWithin (x ∷ xs) = IsWithin x × AllWithin xs

-- the same, as a test
abbrev pub all_within : List RangedNumber → Bool
all_within [] = true
all_within (x ∷ xs) = is_within x && all_within xs

-- the area of a building, in tenths of a square metre
abbrev pub IsArea : ℕ → Type 0
IsArea n = IsBetween 1 n 100000000

-- the life of a building, in years
abbrev pub IsLife : ℕ → Type 0
IsLife n = IsBetween 1 n 100

abbrev pub IsRegionNumber : ℕ → Type 0
IsRegionNumber n = IsBetween 1 n 5

abbrev pub IsSunClass : ℕ → Type 0
IsSunClass n = IsBetween 1 n 4

abbrev pub IsTypeNumber : ℕ → Type 0
IsTypeNumber n = IsBetween 1 n 8

-- the reference intensity, in tenths of a kilogram per square metre and year; 0 where there is none
abbrev pub IsReference : ℕ → Type 0
IsReference n = IsBetween 0 n 10000

-- the amount of a factor, in tenths of a gram per unit
abbrev pub amount_range : Range
amount_range = range_from 0 1000000000

abbrev pub IsAmount : ℕ → Type 0
IsAmount n = IsWithin (amount_range, n)

-- the number of a unit
abbrev pub unit_range : Range
unit_range = range_from 1 7

abbrev pub IsUnitNumber : ℕ → Type 0
IsUnitNumber n = IsWithin (unit_range, n)
