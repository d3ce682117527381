use Rattle.std.proofs.Common.{◌^◌, pos, nat_abs, refl, ap, ◌∙◌}
use Rattle.std.proofs.lemmas.Nat.{pow_pos}
use Rattle.exact.specs.Rounding.{over}
use Rattle.exact.proofs.Nearness.{nearest_same}
use Rattle.booking.specs.Quantities.{measured_thousandths}
use Rattle.booking.proofs.Measures.{divides}
use Rattle.booking.proofs.quantity.measured_thousandths.Goals as goal

pub returns : goal.returns
returns c =
    let x = c.args.x in
    let exact = c.exact_thousandths in
    let same = nearest_same (over (pos exact.result.numerator) (2 ^ exact.result.shift)) (measured_thousandths x) (pow_pos exact.result.shift) (divides x) exact.ensures in
    (c.if-not-is_in_range.ensures.0 refl, ap nat_abs (c.round.ensures ∙ same))
