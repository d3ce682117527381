-- The 22 rows by their numbers: their stages, their signs and their calculation methods.
use Rattle.std.specs.Prelude.{ℕ, Bool, if◌then◌else◌, ◌&&◌, ◌||◌, ◌==◌, nat_le}
use Rattle.domain.specs.Ranges.{IsBetween}
use Rattle.booking.specs.declared.method.CalculationMethod.{CalculationMethod}
use Rattle.booking.specs.declared.method.CalculationMethod.TheVariants.{OneOff, DistanceBased, Annual, Replacement, Leakage}
use Rattle.booking.specs.declared.row.Row.{Row}
use Rattle.booking.specs.declared.row.Row.TheVariants.{Production, Haulage, MachineEnergy, MachineWater, OfficeEnergy, OfficeWater, TemporaryMaterial, RubbishHaulage, SiteRenewables, SiteGases, EquipmentEnergyBurnt, EquipmentEnergyBought, Water, UserEnergyBurnt, UserEnergyBought, Upkeep, Renewal, Refurbishment, Renewables, Sink, Refrigerant, Demolition}
use Rattle.booking.specs.declared.rules.Stage.{Stage}
use Rattle.booking.specs.declared.rules.Stage.TheVariants.{A, B, C, D}

abbrev pub IsRowNumber : ℕ → Type 0
IsRowNumber n = IsBetween 1 n 22

abbrev pub row_number : Row → ℕ
row_number Production = 1
row_number Haulage = 2
row_number MachineEnergy = 3
row_number MachineWater = 4
row_number OfficeEnergy = 5
row_number OfficeWater = 6
row_number TemporaryMaterial = 7
row_number RubbishHaulage = 8
row_number SiteRenewables = 9
row_number SiteGases = 10
row_number EquipmentEnergyBurnt = 11
row_number EquipmentEnergyBought = 12
row_number Water = 13
row_number UserEnergyBurnt = 14
row_number UserEnergyBought = 15
row_number Upkeep = 16
row_number Renewal = 17
row_number Refurbishment = 18
row_number Renewables = 19
row_number Sink = 20
row_number Refrigerant = 21
row_number Demolition = 22

abbrev pub stage_number : Stage → ℕ
stage_number A = 1
stage_number B = 2
stage_number C = 3
stage_number D = 4

-- stage 1 has rows 1 and 2, stage 2 rows 3 to 10, stage 3 rows 11 to 21, and stage 4 row 22
abbrev pub stage : ℕ → ℕ
stage row = if nat_le row 2 then 1 else (if nat_le row 10 then 2 else (if nat_le row 21 then 3 else 4))

-- the rows that are subtracted: renewables on site and in use, and the sink
abbrev pub is_subtracted : ℕ → Bool
is_subtracted row = row == 9 || (row == 19 || row == 20)

-- haulage is calculated by distance, and use by the year, apart from renewal, refurbishment and refrigerant
abbrev pub method : ℕ → CalculationMethod
method row =
    if row == 2 || row == 8 then DistanceBased
    else (if (nat_le 11 row && nat_le row 16) || (row == 19 || row == 20) then Annual
    else (if row == 17 then Replacement
    else (if row == 21 then Leakage
    else OneOff)))
