-- The map of a project's own list of factors.
use Rattle.std.specs.Prelude.{ℕ, if◌then◌else◌, ◌&&◌, List, [], ◌∷◌, ◌==◌, Option, Some, None}
use Rattle.domain.specs.declared.factor.FactorNumbers.{FactorNumbers}
use Rattle.domain.specs.declared.factor.FactorRow.{FactorRow}
use Rattle.domain.specs.Factors.{is_factor_in_range}
use Rattle.factors.specs.Maps.{FactorAnswer, FactorMap, has, lacks}

-- the factor of a row, if it has the code c and its numbers are in range
abbrev pub row_factor : FactorRow → ℕ → Option FactorNumbers
row_factor row c = if row.code == c && is_factor_in_range row.factor then Some row.factor else None

-- f, or next where there is no f
abbrev pub or_next : Option FactorNumbers → FactorAnswer → FactorAnswer
or_next (Some f) next = has f
or_next None next = next

-- the factor of the first row that has one for the code
abbrev pub list_map : List FactorRow → FactorMap
list_map [] c = lacks c
list_map (row ∷ rows) c = or_next (row_factor row c) (list_map rows c)
