-- What holds of an entry that is booked: the laws that other crates cite.
use Rattle.std.proofs.Common.{pos, ℕ, ◌<◌, ◌≤◌, arith}
use Rattle.exact.specs.Rounding.{HasPositiveDivisor, IsWithinHalf}
use Rattle.exact.proofs.Nearness.{rounded_near, rounded_most}
use Rattle.factors.specs.Maps.{FactorMap}
use Rattle.refusals.specs.declared.refusal.Refusal.TheVariants.{UnknownRow, InvalidSpan, TooLarge}
use Rattle.refusals.specs.Refusals.{refusal_number, AllHold}
use Rattle.refusals.proofs.Deciding.{hold_at}
use Rattle.domain.specs.declared.entry.Entry.{Entry}
use Rattle.booking.specs.declared.method.CalculationMethod.{CalculationMethod}
use Rattle.booking.specs.Booking.{span_condition, product_condition, entry_product, entry_divisor, exact_grams, booking_conditions, booked_line}
use Rattle.booking.specs.Methods.{SpanFits, divisor}
use Rattle.booking.specs.Rows.{IsRowNumber, method}
use Rattle.booking.specs.Emissions.{max_grams, IsLineGrams}

-- the divisor is at least 1 and at most 100
pub divisor_range : (k : CalculationMethod) (s : ℕ) → SpanFits k s → (0 < divisor k s) × (divisor k s ≤ 100)
divisor_range k s fits = grind arith

module _ (y : ℕ) (factor_map : FactorMap) (e : Entry) (kept : AllHold (booking_conditions y factor_map e)) where
  -- its row exists
  pub row_kept : IsRowNumber e.head.row
  unfolding booking_conditions
  row_kept = hold_at (refusal_number UnknownRow) (booking_conditions y factor_map e) kept

  span_kept : (span_condition e).1
  unfolding booking_conditions
  span_kept = hold_at (refusal_number InvalidSpan) (booking_conditions y factor_map e) kept

  product_kept : (product_condition y factor_map e).1
  unfolding booking_conditions
  product_kept = hold_at (refusal_number TooLarge) (booking_conditions y factor_map e) kept

  -- the divisor of its exact grams is positive
  pub exact_divides : HasPositiveDivisor (exact_grams y factor_map e)
  exact_divides = omega (arith, divisor_range (method e.head.row) e.head.span span_kept)

  -- its booked grams are in the range of a line, and within half a gram of the exact ones
  pub grams_kept : IsLineGrams (booked_line y factor_map e).grams
  grams_kept = rounded_most (entry_product y factor_map e) (entry_divisor y factor_map e) max_grams exact_divides (omega (arith, product_kept, exact_divides))

  pub grams_near : IsWithinHalf (pos (booked_line y factor_map e).grams) (exact_grams y factor_map e)
  grams_near = rounded_near (entry_product y factor_map e) (entry_divisor y factor_map e) exact_divides
