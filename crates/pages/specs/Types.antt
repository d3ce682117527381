-- The types of emission, and the type of each row.
use Rattle.std.specs.Prelude.{ℕ, if◌then◌else◌, ◌||◌, ◌==◌}
use Rattle.pages.specs.declared.by_type.EmissionType.{EmissionType}
use Rattle.pages.specs.declared.by_type.EmissionType.TheVariants.{Direct, Indirect, Embodied, Sink}

abbrev pub emission_number : EmissionType → ℕ
emission_number Direct = 1
emission_number Indirect = 2
emission_number Embodied = 3
emission_number Sink = 4

-- direct: what is burnt in the building, and refrigerant; indirect: energy bought, water, and renewables in use; the
-- sink is a type of its own; all other rows are embodied
abbrev pub emission_type : ℕ → ℕ
emission_type row =
    if row == 11 || (row == 14 || row == 21) then 1
    else (if row == 12 || (row == 13 || (row == 15 || row == 19)) then 2
    else (if row == 20 then 4
    else 3))
