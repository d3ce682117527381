-- The maps of the sources that add to another source.
use Rattle.std.specs.Prelude.{ℕ, List, ◌-◌, if◌then◌else◌, ◌&&◌, ◌==◌, nat_lt}
use Rattle.exact.specs.Rounding.{rounded_quotient}
use Rattle.factors.specs.BuiltIn.{built_in_map}
use Rattle.domain.specs.declared.factor.FactorNumbers.{FactorNumbers}
use Rattle.domain.specs.declared.factor.FactorRow.{FactorRow}
use Rattle.factors.specs.Lists.{list_map}
use Rattle.factors.specs.Maps.{FactorAnswer, FactorMap, has, lacks}
use Rattle.domain.specs.Numbers.{unit_number}
use Rattle.domain.specs.declared.factor_unit.FactorUnit.TheVariants.{Tonne}

-- a if it is a factor, otherwise b if that is a factor, and otherwise the lack of a
abbrev pub or_else : FactorAnswer → FactorAnswer → FactorAnswer
or_else (has f) b = has f
or_else (lacks l) (has f) = has f
or_else (lacks l) (lacks m) = lacks l

-- the factor of the source below, or otherwise the built-in one; where both lack the code, the lack is that of the
-- source below
abbrev pub defaults_map : FactorMap → FactorMap
defaults_map below c = or_else (below c) (built_in_map c)

-- a factor of half the amount, a half going up
abbrev pub half_factor : FactorNumbers → FactorNumbers
half_factor f = record { amount = rounded_quotient f.amount 2; unit = f.unit }

-- half of a factor per tonne; where the factor is per anything else, the code c is lacking
abbrev pub recycled_answer : ℕ → FactorAnswer → FactorAnswer
recycled_answer c (has f) = if f.unit == unit_number Tonne then has (half_factor f) else lacks c
recycled_answer c (lacks l) = lacks l

-- recycled material has the code of the new material plus 1,000,000, and half its amount
abbrev pub recycled_map : FactorMap → FactorMap
recycled_map below c = if nat_lt 1000000 c && nat_lt c 2000000 then recycled_answer c (below (c - 1000000)) else below c

-- the factors of a project: recycled material over the built-in factors over its own list
abbrev pub project_map : List FactorRow → FactorMap
project_map rows = recycled_map (defaults_map (list_map rows))
