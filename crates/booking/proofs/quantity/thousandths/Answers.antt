use Rattle.booking.proofs.Measures.{gives_near}
use Rattle.domain.specs.declared.entry.Quantity.TheVariants.{Counted, Measured}
use Rattle.booking.proofs.quantity.thousandths.Goals as goal

pub returns-in-Counted : goal.returns-in-Counted
returns-in-Counted c = rw c.in-Counted.is (record { value = c.counted_thousandths.ensures; near = gives_near (Counted c.in-Counted.n) c.counted_thousandths.result c.counted_thousandths.ensures })

pub returns-in-Measured : goal.returns-in-Measured
returns-in-Measured c = rw c.in-Measured.is (record { value = c.measured_thousandths.ensures; near = gives_near (Measured c.in-Measured.x) c.measured_thousandths.result c.measured_thousandths.ensures })
