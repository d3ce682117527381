use Rattle.std.proofs.Common.{take, ap, arith}
use Rattle.feed.specs.Frames.{first_note}
use Rattle.feed.proofs.frame.first_note.Goals as goal

pub returns : goal.returns
unfolding first_note
returns c = (
  (record { head = omega arith; least = omega (arith, c.number_at.ensures, c.from-len.ensures); whole = omega (arith, c.number_at.ensures, c.from-len.ensures) }, tt),
  ap (λ n. take n c.args.bytes.now) (omega (arith, c.number_at.ensures, c.from-len.ensures)),
)
