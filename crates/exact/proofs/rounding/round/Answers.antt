use Rattle.std.proofs.Common.{◌∙◌, arith}
use Rattle.std.proofs.lemmas.Int.{ints}
use Rattle.exact.proofs.Nearness.{nearest_down, nearest_up}
use Rattle.exact.proofs.rounding.round.Goals as goal

pub returns-then-rest-divisor : goal.returns-then-rest-divisor
returns-then-rest-divisor c = let a = c.args in omega (arith, ints) ∙ nearest_down a.whole a.rest a.divisor (omega arith)

pub returns-else-rest-divisor : goal.returns-else-rest-divisor
returns-else-rest-divisor c = let a = c.args in omega (arith, ints) ∙ nearest_up a.whole a.rest a.divisor (omega arith) (omega arith)
