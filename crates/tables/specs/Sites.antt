-- The buildings that are graded to find the tables' figures.
use Rattle.std.specs.Prelude.{ℕ}
use Rattle.domain.specs.declared.building.BuildingNumbers.{BuildingNumbers}

-- one square metre, which is ten tenths of one, and one year
abbrev pub square_metre : (region sun building_type reference : ℕ) → BuildingNumbers
square_metre region sun building_type reference = record {
  area = 10;
  life = 1;
  region = region;
  sun = sun;
  building_type = building_type;
  reference = reference;
}
