-- Grades: which one a building is given.
use Rattle.std.specs.Prelude.{◌≡◌, ℕ, ◌-◌, ◌*◌, ◌<◌, ◌≤◌, Bool, if◌then◌else◌, ◌||◌, ◌==◌, ◌⊎◌, List, Option, Some, None, ℤ, pos, ◌*ℤ◌, ◌≤ℤ◌}
use Rattle.domain.specs.declared.building.BuildingNumbers.{BuildingNumbers}
use Rattle.totals.specs.Sums.{Sums}
use Rattle.grades.specs.declared.grading.Grade.{Grade}
use Rattle.grades.specs.declared.grading.Grade.TheVariants.{Ungraded, LowCarbon, NearZero}
use Rattle.grades.specs.Limits.{Limits, limit, low_carbon_limits, near_zero_limits}
use Rattle.grades.specs.Ratios.{ratio, low_carbon_ratios, near_zero_ratios}
use Rattle.domain.specs.Numbers.{type_number}
use Rattle.domain.specs.declared.building_type.BuildingType.TheVariants.{Residential}

abbrev pub grade_number : Grade → ℕ
grade_number Ungraded = 0
grade_number LowCarbon = 1
grade_number NearZero = 2

-- the rows of the energy of use: burnt and bought, by equipment and by users, and the renewables in use
abbrev pub is_use_energy : ℕ → Bool
is_use_energy row = row == 11 || (row == 12 || (row == 14 || (row == 15 || row == 19)))

-- the emissions of the energy of use, in grams; the renewables have a minus in their row
abbrev pub energy_emissions : Sums → ℤ
energy_emissions sums = sums.grams is_use_energy

-- an intensity, in tenths of a kilogram per square metre and year, over the building's area (in tenths of a square
-- metre) and its life (in years): in grams
abbrev pub grams_over_life : BuildingNumbers → ℕ → ℕ
grams_over_life b intensity = 10 * intensity * b.area * b.life

-- w grams are within the limit; false where there is no limit
abbrev pub LimitHolds : Option ℕ → BuildingNumbers → ℤ → Type 0
LimitHolds None b w = ⊥
LimitHolds (Some l) b w = w ≤ℤ pos (grams_over_life b l)

-- the building is no home and has a reference, and w grams are p per cent below the reference, or further
pub record RatioHolds (p : ℕ) (b : BuildingNumbers) (w : ℤ) : Type 0 where
  pub not_residential : b.building_type ≡ type_number Residential → ⊥
  pub reference : b.reference ≡ 0 → ⊥
  pub below : (pos 100 *ℤ w) ≤ℤ pos ((100 - p) * grams_over_life b b.reference)

-- the limit holds or the ratio does
abbrev pub Meets : Option ℕ → ℕ → BuildingNumbers → ℤ → Type 0
Meets l p b w = LimitHolds l b w ⊎ RatioHolds p b w

-- the limits and the ratios of grade n: 1 is low-carbon, 2 near-zero-carbon
abbrev pub limits_of : ℕ → List Limits
limits_of n = if n == 2 then near_zero_limits else low_carbon_limits

abbrev pub ratios_of : ℕ → List ℕ
ratios_of n = if n == 2 then near_zero_ratios else low_carbon_ratios

-- the building meets grade n, at w grams
unfoldable pub MeetsGrade : ℕ → BuildingNumbers → ℤ → Type 0
MeetsGrade n b w = Meets (limit (limits_of n) b) (ratio (ratios_of n) b.region) b w

-- grade n is given: the building meets it, or it is 0, and meets no higher one
pub record IsAwarded (b : BuildingNumbers) (w : ℤ) (n : ℕ) : Type 0 where
  pub graded : n ≤ 2
  pub met : (n ≡ 0) ⊎ MeetsGrade n b w
  pub highest : (m : ℕ) → n < m → m ≤ 2 → MeetsGrade m b w → ⊥

-- no grade but n is given
abbrev pub IsOnlyGrade : BuildingNumbers → ℤ → ℕ → Type 0
IsOnlyGrade b w n = (m : ℕ) → IsAwarded b w m → m ≡ n
