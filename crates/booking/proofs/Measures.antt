-- Quantities: the tests of their ranges, and the thousandths that they are booked as.
use Rattle.std.proofs.Common.{◌≡◌, ℕ, zero, suc, ◌+◌, ◌*◌, ◌<◌, ◌≤◌, ◌↔◌, true, false, ◌||◌, ◌&&◌, ltb, eqb, ℤ, pos, ◌*ℤ◌, nat_abs, Ok, Err, Result, IfOk, sym, refl, ap, ◌∙◌, subst, true≢false, arith}
use lib.Ieee.{Float, nan, inf, fin, up, down, binary64, of_bits, is_nan, lt, le, eq}
use lib.Ieee.Fits.{up_pos, down_pos}
use Rattle.std.specs.Bool.{IsTrue}
use Rattle.std.proofs.lemmas.Bool.Decides.{nat_tests}
use Rattle.std.proofs.lemmas.Int.{ints}
use Rattle.refusals.specs.declared.refusal.Refusal.{Refusal}
use Rattle.refusals.specs.declared.refusal.Refusal.TheVariants.{InvalidQuantity}
use Rattle.refusals.specs.Refusals.{GivesOrRefusesBy}
use Rattle.exact.specs.Rounding.{over, HasPositiveDivisor, nearest_whole, IsWithinHalf}
use Rattle.exact.proofs.Nearness.{stays, rounded_near, rounded_most}
use Rattle.domain.specs.declared.entry.Quantity.{Quantity}
use Rattle.domain.specs.declared.entry.Quantity.TheVariants.{Counted, Measured}
use Rattle.booking.specs.Quantities.{IsMeasuredInRange, measured_thousandths, IsQuantityInRange, exact_thousandths, booked_thousandths}

-- a number times a power of two is 0 only if the number is 0
none : (m : ℕ) (e : ℤ) → m * up e ≡ 0 → m ≡ 0
none zero e h = refl
none (suc m) e h = absurd (omega (arith, up_pos e))

-- what `le` tests: of two numbers that are not negative, of zero and a negative one, and of a negative and a positive
-- one
at_most : (a b : ℕ) → IsTrue (ltb a b || (eqb a b && true)) ↔ (a ≤ b)
at_most a b = (λ t. grind (arith, nat_tests), λ l. grind (arith, nat_tests))

both_zero : (a b : ℕ) → IsTrue (eqb a b && eqb a 0) ↔ ((a ≡ 0) × (b ≡ 0))
both_zero a b = (λ t. grind (arith, nat_tests), λ z. grind (arith, nat_tests))

rises : (a b : ℕ) → 0 < b → IsTrue (ltb 0 (a + b) || (eqb a b && eqb a 0))
rises a b l = grind (arith, nat_tests)

-- 0 and 1,000,000 as floating-point numbers
abbrev least_measured : Float
least_measured = of_bits binary64 0

abbrev most_measured : Float
most_measured = of_bits binary64 4696837146684686336

-- a NaN is not in range
pub nan_out : (x : Float) → is_nan x ≡ true → IsMeasuredInRange x → ⊥
unfolding is_nan
nan_out nan n r = r
nan_out (inf s) n r = r
nan_out (fin s m e) n r = absurd (true≢false (sym n))

-- both comparisons hold exactly of the numbers in range
pub passes : (x : Float) → IsTrue (le least_measured x) → IsTrue (le x most_measured) → IsMeasuredInRange x
unfolding le lt eq of_bits
passes nan l h = absurd (true≢false (sym l))
passes (inf true) l h = absurd (true≢false (sym l))
passes (inf false) l h = absurd (true≢false (sym h))
passes (fin true m e) l h = let z = (both_zero (0 * down e) (m * up e * 1)).0 l in (omega (arith, z.1), λ t. none m e (omega (arith, z.1)))
passes (fin false m e) l h = let k = (at_most (m * up e * 1) (1000000 * down e)).0 h in (omega (arith, k), λ t. absurd (true≢false (sym t)))

pub passed : (x : Float) → IsMeasuredInRange x → IsTrue (le least_measured x) × IsTrue (le x most_measured)
unfolding le lt eq of_bits
passed nan r = absurd r
passed (inf s) r = absurd r
passed (fin true m e) r =
    let z : m * up e ≡ 0 = ap (λ n. n * up e) (r.1 refl) ∙ omega arith in
    ((both_zero (0 * down e) (m * up e * 1)).1 (omega arith, omega arith), rises (m * up e * 1) (1000000 * down e) (omega (arith, down_pos e)))
passed (fin false m e) r = ((at_most (0 * down e) (m * up e * 1)).1 (omega arith), (at_most (m * up e * 1) (1000000 * down e)).1 (omega (arith, r.0)))

-- the divisor of measured thousandths is positive
pub divides : (x : Float) → HasPositiveDivisor (measured_thousandths x)
divides nan = omega arith
divides (inf s) = omega arith
divides (fin s m e) = down_pos e

-- booked thousandths are within a half of the exact ones
pub booked_near : (q : Quantity) {t : ℕ} → t ≡ booked_thousandths q → IsWithinHalf (pos t) (exact_thousandths q)
booked_near q is = subst (λ n. IsWithinHalf (pos n) (exact_thousandths q)) (sym is) (near q)
  where
    near : (q : Quantity) → IsWithinHalf (pos (booked_thousandths q)) (exact_thousandths q)
    near (Counted n) = rounded_near n 1 (omega arith)
    near (Measured nan) = rounded_near 0 1 (omega arith)
    near (Measured (inf s)) = rounded_near 0 1 (omega arith)
    near (Measured (fin s m e)) = rounded_near (1000 * (m * up e)) (down e) (down_pos e)

-- and so is every result
pub gives_near : (q : Quantity) (r : Result ℕ Refusal) → GivesOrRefusesBy (IsQuantityInRange q) InvalidQuantity (λ t. t ≡ booked_thousandths q) r → IfOk r (λ t. IsWithinHalf (pos t) (exact_thousandths q))
gives_near q (Ok t) gives = booked_near q gives.1
gives_near q (Err f) gives = tt

-- a counted quantity is booked unchanged
pub counted_is : (n : ℕ) → n ≡ booked_thousandths (Counted n)
counted_is n =
    let whole : pos n *ℤ pos 1 ≡ pos n = omega (arith, ints) in
    ap nat_abs (sym (stays (pos n) 1 (omega arith)) ∙ ap (λ m. nearest_whole (over m 1)) whole)

-- a quantity in range is booked in range
pub booked_range : (q : Quantity) → IsQuantityInRange q → booked_thousandths q ≤ 1000000000
booked_range (Counted n) r = rounded_most n 1 1000000000 (omega arith) (omega arith)
booked_range (Measured nan) r = absurd r
booked_range (Measured (inf s)) r = absurd r
booked_range (Measured (fin s m e)) r = rounded_most (1000 * (m * up e)) (down e) 1000000000 (down_pos e) (omega (arith, r.0))
