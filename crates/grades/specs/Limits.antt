-- The limits of the two grades, in tenths of a kilogram per square metre and year, from the zero-carbon draft.
use Rattle.std.specs.Prelude.{ℕ, ◌-◌, Bool, true, if◌then◌else◌, ◌&&◌, ◌==◌, List, [], ◌∷◌, slice_index, Option, Some, None}
use Rattle.domain.specs.declared.building.BuildingNumbers.{BuildingNumbers}
use Rattle.domain.specs.Numbers.{region_number}
use Rattle.grades.specs.declared.limits.LimitRow.{LimitRow}

-- the limits of a region, one for each type of building; for one sun class, or for all if none is named
pub record Limits : Type 0 where
  pub region : ℕ
  pub sun : Option ℕ
  pub by_type : List ℕ

abbrev pub region_limits : ℕ → Option ℕ → List ℕ → Limits
region_limits region sun by_type = record { region = region; sun = sun; by_type = by_type }

-- a row of the code's tables
abbrev pub limits_of_row : LimitRow → Limits
limits_of_row row = record { region = region_number row.region; sun = row.sun; by_type = row.limits }

-- whether limits apply to the sun class c
abbrev pub is_for_sun : Option ℕ → ℕ → Bool
is_for_sun None c = true
is_for_sun (Some sun) c = sun == c

-- whether limits apply to a building
abbrev pub is_for : Limits → BuildingNumbers → Bool
is_for l b = l.region == b.region && is_for_sun l.sun b.sun

-- the limit of a building, from the first limits that apply to it; none where no limits do
unfoldable pub limit : List Limits → BuildingNumbers → Option ℕ
limit [] b = None
limit (l ∷ ls) b = if is_for l b then Some (slice_index l.by_type (b.building_type - 1)) else limit ls b

-- the low-carbon limits; in each row: homes, small and large offices, small and large hotels, shops, hospitals, schools
unfoldable pub low_carbon_limits : List Limits
low_carbon_limits =
    region_limits 1 None (230 ∷ 230 ∷ 250 ∷ 300 ∷ 350 ∷ 650 ∷ 550 ∷ 150 ∷ []) ∷
    region_limits 2 None (210 ∷ 210 ∷ 250 ∷ 300 ∷ 400 ∷ 680 ∷ 550 ∷ 160 ∷ []) ∷
    region_limits 3 None (210 ∷ 210 ∷ 280 ∷ 330 ∷ 430 ∷ 750 ∷ 600 ∷ 200 ∷ []) ∷
    region_limits 4 None (230 ∷ 230 ∷ 300 ∷ 360 ∷ 450 ∷ 850 ∷ 650 ∷ 250 ∷ []) ∷
    region_limits 5 None (180 ∷ 180 ∷ 220 ∷ 280 ∷ 300 ∷ 630 ∷ 450 ∷ 130 ∷ []) ∷ []

-- the near-zero-carbon limits, in the same order; a region has no limit in a sun class that is not listed
unfoldable pub near_zero_limits : List Limits
near_zero_limits =
    region_limits 1 (Some 1) (140 ∷ 160 ∷ 190 ∷ 200 ∷ 240 ∷ 490 ∷ 405 ∷ 100 ∷ []) ∷
    region_limits 1 (Some 2) (150 ∷ 170 ∷ 200 ∷ 220 ∷ 250 ∷ 510 ∷ 425 ∷ 110 ∷ []) ∷
    region_limits 1 (Some 3) (160 ∷ 180 ∷ 210 ∷ 240 ∷ 265 ∷ 535 ∷ 445 ∷ 120 ∷ []) ∷
    region_limits 2 (Some 1) (130 ∷ 140 ∷ 180 ∷ 200 ∷ 270 ∷ 515 ∷ 425 ∷ 110 ∷ []) ∷
    region_limits 2 (Some 2) (140 ∷ 150 ∷ 190 ∷ 220 ∷ 285 ∷ 540 ∷ 435 ∷ 120 ∷ []) ∷
    region_limits 2 (Some 3) (160 ∷ 160 ∷ 200 ∷ 240 ∷ 300 ∷ 560 ∷ 450 ∷ 130 ∷ []) ∷
    region_limits 3 (Some 3) (160 ∷ 160 ∷ 230 ∷ 220 ∷ 300 ∷ 610 ∷ 470 ∷ 160 ∷ []) ∷
    region_limits 3 (Some 4) (170 ∷ 170 ∷ 240 ∷ 240 ∷ 310 ∷ 630 ∷ 490 ∷ 170 ∷ []) ∷
    region_limits 4 (Some 2) (160 ∷ 160 ∷ 240 ∷ 270 ∷ 330 ∷ 690 ∷ 500 ∷ 200 ∷ []) ∷
    region_limits 4 (Some 3) (170 ∷ 170 ∷ 250 ∷ 290 ∷ 350 ∷ 700 ∷ 520 ∷ 210 ∷ []) ∷
    region_limits 5 (Some 2) (120 ∷ 120 ∷ 180 ∷ 180 ∷ 220 ∷ 495 ∷ 350 ∷ 90 ∷ []) ∷
    region_limits 5 (Some 3) (130 ∷ 130 ∷ 180 ∷ 190 ∷ 230 ∷ 520 ∷ 370 ∷ 100 ∷ []) ∷
    region_limits 5 (Some 4) (140 ∷ 140 ∷ 180 ∷ 210 ∷ 250 ∷ 540 ∷ 380 ∷ 110 ∷ []) ∷ []
