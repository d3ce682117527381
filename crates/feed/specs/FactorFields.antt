-- The numbers of a factor row, by their offsets in its note.
use Rattle.std.specs.Prelude.{◌≡◌, ℕ, List}
use Rattle.domain.specs.declared.factor.FactorRow.{FactorRow}
use Rattle.feed.specs.Fields.{field}

-- the numbers in the note of a factor row
abbrev pub factor_row_of_note : List ℕ → FactorRow
factor_row_of_note note =
    record { code = field note 4 4; factor = record { amount = field note 8 4; unit = field note 12 2 } }

-- row has the numbers that the note says
abbrev pub IsFactorRow : List ℕ → FactorRow → Type 0
IsFactorRow note row = row ≡ factor_row_of_note note
