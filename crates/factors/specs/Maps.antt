-- The map of a source of factors.
use Rattle.std.specs.Prelude.{ℕ, Ok, Err, Result}
use Rattle.domain.specs.declared.factor.Factor.{Factor}
use Rattle.domain.specs.declared.factor.FactorNumbers.{FactorNumbers}
use Rattle.domain.specs.Factors.{factor_numbers}
use Rattle.factors.specs.declared.lack.Lack.{Lack}

-- the answer for a code: a factor, by its numbers, or the code that is lacking
pub data FactorAnswer : Type 0 where
  has : (factor : FactorNumbers) → FactorAnswer
  lacks : (code : ℕ) → FactorAnswer

-- the answer of a source for every code
abbrev pub FactorMap : Type 0
FactorMap = ℕ → FactorAnswer

-- the answer that a result of `factor` gives
abbrev pub factor_answer : Result Factor Lack → FactorAnswer
factor_answer (Ok f) = has (factor_numbers f)
factor_answer (Err l) = lacks l.code
