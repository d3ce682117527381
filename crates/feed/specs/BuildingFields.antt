-- The numbers of a building, by their offsets in its note.
use Rattle.std.specs.Prelude.{◌≡◌, ℕ, List}
use Rattle.domain.specs.declared.building.Building.{Building}
use Rattle.domain.specs.declared.building.BuildingNumbers.{BuildingNumbers}
use Rattle.domain.specs.Buildings.{numbers_of}
use Rattle.feed.specs.Fields.{field}

-- the numbers in the note of a building
abbrev pub building_of_note : List ℕ → BuildingNumbers
building_of_note note = record {
  area = field note 4 4;
  life = field note 8 2;
  region = field note 10 2;
  sun = field note 12 2;
  building_type = field note 14 2;
  reference = field note 16 2;
}

-- b has the numbers that the note says
abbrev pub IsBuilding : List ℕ → Building → Type 0
IsBuilding note b = numbers_of b ≡ building_of_note note
