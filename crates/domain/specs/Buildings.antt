-- The numbers of a building, and their ranges.
use Rattle.domain.specs.declared.building.Building.{Building}
use Rattle.domain.specs.declared.building.BuildingNumbers.{BuildingNumbers}
use Rattle.domain.specs.Numbers.{region_number, type_number}
use Rattle.domain.specs.Ranges.{IsArea, IsLife, IsRegionNumber, IsSunClass, IsTypeNumber, IsReference}

-- every number of a building is in its range
pub record IsBuildingInRange (b : BuildingNumbers) : Type 0 where
  pub area : IsArea b.area
  pub life : IsLife b.life
  pub region : IsRegionNumber b.region
  pub sun : IsSunClass b.sun
  pub building_type : IsTypeNumber b.building_type
  pub reference : IsReference b.reference

-- the numbers of a building
abbrev pub numbers_of : Building → BuildingNumbers
numbers_of b = record {
  area = b.area;
  life = b.life;
  region = region_number b.region;
  sun = b.sun;
  building_type = type_number b.building_type;
  reference = b.reference;
}
