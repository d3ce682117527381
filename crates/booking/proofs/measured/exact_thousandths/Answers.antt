use Rattle.std.proofs.Common.{arith}
use Rattle.booking.proofs.Patterns.{a_number, by_bits}
use Rattle.booking.proofs.measured.exact_thousandths.Goals as goal

pub float_to_bits-size : goal.float_to_bits-size
float_to_bits-size c = a_number c.args.x c.requires

pub returns-then-exponent-eq0 : goal.returns-then-exponent-eq0
returns-then-exponent-eq0 c = (by_bits c.args.x c.well_formed.0.1 c.requires).least c.if-exponent-eq0.true

pub overflow_sub-result : goal.overflow_sub-result
overflow_sub-result c = (by_bits c.args.x c.well_formed.0.1 c.requires).bounded

pub returns : goal.returns
returns c = (by_bits c.args.x c.well_formed.0.1 c.requires).leading (omega arith)
