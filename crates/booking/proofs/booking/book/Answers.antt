use Rattle.std.proofs.Common.{arith, rules}
use Rattle.std.proofs.lemmas.Result.{err_from_is_err_and}
use Rattle.refusals.specs.declared.refusal.Refusal.TheVariants.{InvalidSpan, InvalidQuantity}
use Rattle.refusals.specs.Refusals.{refusal_number}
use Rattle.refusals.proofs.Deciding.{hold_at}
use Rattle.booking.specs.Booking.{own_conditions}
use Rattle.booking.specs.Rows.{method}
use Rattle.booking.proofs.BookedEntries.{divisor_range}
use Rattle.booking.proofs.Measures.{booked_range}
use Rattle.booking.proofs.Results.{itself_refused, factor_refused, unit_refused, product_refused, calculated}
use Rattle.booking.proofs.booking.book.Goals as goal

pub returns-in_err-activity-clause-value : goal.returns-in_err-activity-clause-value
returns-in_err-activity-clause-value g c =
    let exit = err_from_is_err_and c.from_residual.result c.from_residual.ensures.1 in
    let factor_map = g.S.FactorSource.factor_map c.args.source.now in
    rw (exit.1, exit.2) (itself_refused c.args.building.now.life factor_map c.args.entry.now c.in_err-activity.field-0.0 c.in_err-activity.ensures)

pub returns-in_err-factor-clause-value : goal.returns-in_err-factor-clause-value
returns-in_err-factor-clause-value g c = search (rules, factor_refused)

pub returns-then-not-unit_fits-clause-value : goal.returns-then-not-unit_fits-clause-value
returns-then-not-unit_fits-clause-value g c = unit_refused (record { activity = c.in_ok-activity.ensures; found = c.in_ok-factor.ensures }) c.if-not-unit_fits.ensures

pub grams-requires : goal.grams-requires
grams-requires g c =
    let e = c.args.entry.now in
    let activity = c.in_ok-activity.ensures in
    let thousandths = booked_range e.quantity (hold_at (refusal_number InvalidQuantity) (own_conditions e) activity.0) in
    let divisor = divisor_range (method e.head.row) e.head.span (hold_at (refusal_number InvalidSpan) (own_conditions e) activity.0) in
    record {
      thousandths = omega (arith, thousandths, activity.1.counts);
      divisor = (omega (arith, divisor, activity.1.divides), omega (arith, divisor, activity.1.divides));
    }

pub returns-in_err-grams-clause-value : goal.returns-in_err-grams-clause-value
returns-in_err-grams-clause-value g c =
    let exit = err_from_is_err_and c.from_residual-in_err-grams.result c.from_residual-in_err-grams.ensures.1 in
    let large = c.in_err-grams.ensures in
    rw (exit.1, exit.2, large.0) (product_refused (record { activity = c.in_ok-activity.ensures; found = c.in_ok-factor.ensures }) c.if-not-unit_fits.ensures large.1)

pub invariant_of-result : goal.invariant_of-result
invariant_of-result g c =
    let w = calculated {factor_map = g.S.FactorSource.factor_map c.args.source.now} (record { activity = c.in_ok-activity.ensures; found = c.in_ok-factor.ensures }) c.if-not-unit_fits.ensures c.in_ok-grams.ensures in
    record { grams_within = w.range }

pub returns : goal.returns
returns g c =
    let head = c.args.entry.now.head in
    let activity = c.in_ok-activity.ensures.1 in
    let w = calculated (record { activity = c.in_ok-activity.ensures; found = c.in_ok-factor.ensures }) c.if-not-unit_fits.ensures c.in_ok-grams.ensures in
    record {
      value = ((w.kept, λ i. record { row = activity.row_is i; span = head.span; code = head.code; thousandths = activity.counts i; grams = w.grams i }), tt);
      near = w.near;
    }
