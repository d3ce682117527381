use Rattle.booking.proofs.Measures.{counted_is}
use Rattle.booking.proofs.quantity.counted_thousandths.Goals as goal

pub returns : goal.returns
returns c = (c.if-n-gt-MAX_COUNTED.false, counted_is c.args.n)
