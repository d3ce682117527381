-- Quantities: their range, and the thousandths that they are booked as.
use Rattle.std.specs.Prelude.{◌≡◌, ℕ, ◌*◌, ◌≤◌, true, pos, unsigned_abs, Float, Result}
use Rattle.std.specs.Float.{nan, inf, fin}
use Rattle.std.specs.Float.Ieee.{up, down}
use Rattle.exact.specs.Rounding.{Fraction, over, nearest_whole}
use Rattle.domain.specs.declared.entry.Quantity.{Quantity}
use Rattle.domain.specs.declared.entry.Quantity.TheVariants.{Counted, Measured}
use Rattle.refusals.specs.declared.refusal.Refusal.{Refusal}
use Rattle.refusals.specs.declared.refusal.Refusal.TheVariants.{InvalidQuantity}
use Rattle.refusals.specs.Refusals.{GivesOrRefusesBy}

-- a binary64 number from 0 to 1,000,000: it is m × 2^e, with 2^e written as up e / down e, and negative only where it
-- is zero
abbrev pub IsMeasuredInRange : Float → Type 0
IsMeasuredInRange nan = ⊥
IsMeasuredInRange (inf negative) = ⊥
IsMeasuredInRange (fin negative m e) = (m * up e ≤ 1000000 * down e) × (negative ≡ true → m ≡ 0)

abbrev pub IsQuantityInRange : Quantity → Type 0
IsQuantityInRange (Counted n) = n ≤ 1000000000
IsQuantityInRange (Measured x) = IsMeasuredInRange x

-- a thousand times the exact binary value; 0 of an infinity and of what is not a number, which no contract uses
abbrev pub measured_thousandths : Float → Fraction
measured_thousandths nan = over (pos 0) 1
measured_thousandths (inf negative) = over (pos 0) 1
measured_thousandths (fin negative m e) = over (pos (1000 * (m * up e))) (down e)

-- the exact thousandths of a quantity
abbrev pub exact_thousandths : Quantity → Fraction
exact_thousandths (Counted n) = over (pos n) 1
exact_thousandths (Measured x) = measured_thousandths x

-- the booked thousandths, which are the nearest whole number
abbrev pub booked_thousandths : Quantity → ℕ
booked_thousandths q = unsigned_abs (nearest_whole (exact_thousandths q))

-- r is the thousandths that are booked of a quantity, if it is in range
abbrev pub BooksThousandths : Quantity → Result ℕ Refusal → Type 0
BooksThousandths q r = GivesOrRefusesBy (IsQuantityInRange q) InvalidQuantity (λ t. t ≡ booked_thousandths q) r
