-- The numbers that regions, building types and units have.
use Rattle.std.specs.Prelude.{ℕ}
use Rattle.domain.specs.declared.region.Region.{Region}
use Rattle.domain.specs.declared.region.Region.TheVariants.{SevereCold, Cold, HotSummerColdWinter, HotSummerWarmWinter, Mild}
use Rattle.domain.specs.declared.building_type.BuildingType.{BuildingType}
use Rattle.domain.specs.declared.building_type.BuildingType.TheVariants.{Residential, SmallOffice, LargeOffice, SmallHotel, LargeHotel, Shop, Hospital, School}
use Rattle.domain.specs.declared.factor_unit.FactorUnit.{FactorUnit}
use Rattle.domain.specs.declared.factor_unit.FactorUnit.TheVariants.{Tonne, CubicMetre, KilowattHour, Kilogram, TonneKilometre, Piece, SquareMetre}

abbrev pub region_number : Region → ℕ
region_number SevereCold = 1
region_number Cold = 2
region_number HotSummerColdWinter = 3
region_number HotSummerWarmWinter = 4
region_number Mild = 5

abbrev pub type_number : BuildingType → ℕ
type_number Residential = 1
type_number SmallOffice = 2
type_number LargeOffice = 3
type_number SmallHotel = 4
type_number LargeHotel = 5
type_number Shop = 6
type_number Hospital = 7
type_number School = 8

abbrev pub unit_number : FactorUnit → ℕ
unit_number Tonne = 1
unit_number CubicMetre = 2
unit_number KilowattHour = 3
unit_number Kilogram = 4
unit_number TonneKilometre = 5
unit_number Piece = 6
unit_number SquareMetre = 7
