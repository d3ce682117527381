-- The value of a binary64 number in range, from the exponent and the digits in its bits.
use Rattle.std.proofs.Common.{◌≡◌, ℕ, zero, suc, ◌+◌, ◌-◌, ◌*◌, ◌/◌, ◌%◌, ◌^◌, ◌<◌, ◌≤◌, Bool, true, false, cond, not, T, eqb, leb, pos, sym, ap, ◌∙◌, subst, ⊎_elim, mul-le-mul_right, mul-pos, arith, pow_mono}
use native.Mathlib.Nat.{eq_of_mul-eq-mul_right}
use lib.Ieee.{Float, nan, inf, fin, up, down, binary64, of_bits, to_bits, of_fields, odd, fits, is_nan}
use lib.Ieee.Bits.{of_bits-to_bits}
use lib.Ieee.Exact.{HasValue, odd_sign}
use lib.Ieee.Fits.{down_pos}
use Rattle.std.specs.Bool.{IsTrue}
use Rattle.std.proofs.str.Laws.{order}
use Rattle.std.proofs.lemmas.Float.{T_from_true}
use Rattle.std.proofs.lemmas.Nat.{pow_pos, pow-add}
use Rattle.exact.specs.Rounding.{over, IsSame}
use Rattle.booking.specs.Quantities.{IsMeasuredInRange, measured_thousandths}

-- a common factor of numerator and divisor can be cancelled
cancel : (x : Float) (s : Bool) (a p q : ℕ) → 0 < p → HasValue x s (a * p) (p * q) → HasValue x s a q
cancel nan s a p q h v = v
cancel (inf t) s a p q h v = v
cancel (fin t m e) s a p q h v = (v.0, eq_of_mul-eq-mul_right p h (m * up e * q) (a * down e) (omega (arith, v.1)))

-- the thousandths of a number that is t / c
thousand : (x : Float) (s : Bool) (t c : ℕ) → IsMeasuredInRange x → HasValue x s t c → IsSame (over (pos (t * 1000)) c) (measured_thousandths x)
thousand nan s t c r v = absurd r
thousand (inf n) s t c r v = absurd r
thousand (fin n m e) s t c r v = ap pos (omega (arith, v.1))

-- a number in range is not (2^52 + t) * p / c with p at least 2 * c, which is at least 2^53
small : (x : Float) (s : Bool) (t p c : ℕ) → IsMeasuredInRange x → HasValue x s ((2 ^ 52 + t) * p) c → 2 * c ≤ p → 0 < c → ⊥
small nan s t p c r v h z = absurd r
small (inf n) s t p c r v h z = absurd r
small (fin n m e) s t p c r v h z =
    let d = down e in
    omega (arith, v.1, mul-le-mul_right c r.0, mul-le-mul_right d h, mul-pos z (down_pos e))

-- the number x has the exponent k and the digits t; where the exponent is 0, they have no leading 1
pub record HasDigits (x : Float) (k t : ℕ) : Type 0 where
  pub bounded : k ≤ 1075
  pub least : k ≡ 0 → IsSame (over (pos (t * 1000)) (2 ^ 1074)) (measured_thousandths x)
  pub leading : 0 < k → IsSame (over (pos ((2 ^ 52 + t) * 1000)) (2 ^ (1075 - k))) (measured_thousandths x)

-- the number that a sign, an exponent and digits stand for
module _ (s : Bool) (t : ℕ) where
  -- with an exponent above 0; the largest exponent is that of infinities and of what is not a number
  abbrev standing_for : ℕ → Bool → Float
  standing_for j largest = cond largest (cond (eqb t 0) (inf s) nan) (odd 53 s (2 ^ 52 + t) j 1074)

  no_number : (infinite : Bool) → IsMeasuredInRange (cond infinite (inf s) nan) → ⊥
  no_number true r = r
  no_number false r = r

  value : (j : ℕ) (largest : Bool) → IsMeasuredInRange (standing_for j largest) → HasValue (standing_for j largest) s ((2 ^ 52 + t) * 2 ^ j) (2 ^ 1074)
  value j true r = absurd (no_number (eqb t 0) r)
  value j false r = odd_sign 53 s (2 ^ 52 + t) j 1074

  has_digits : (k : ℕ) → IsMeasuredInRange (of_fields binary64 s k t) → HasDigits (of_fields binary64 s k t) k t
  unfolding of_fields
  has_digits zero r =
      let x = of_fields binary64 s 0 t in
      let v : HasValue x s t (2 ^ 1074) = subst (λ a. HasValue x s a (2 ^ 1074)) (omega arith) (odd_sign 53 s t 0 1074) in
      record { bounded = omega arith; least = λ _. thousand x s t (2 ^ 1074) r v; leading = λ above. absurd (omega arith) }
  has_digits (suc j) r =
      let x = of_fields binary64 s (suc j) t in
      let a = 2 ^ 52 + t in
      let v = value j (eqb (suc j) 2047) r in
      let bound : j < 1075 = ⊎_elim (λ l. l) (λ l. absurd (small x s t (2 ^ j) (2 ^ 1074) r v (pow_mono l) (pow_pos 1074))) (order j 1075) in
      let whole : 1074 ≡ j + (1074 - j) = omega arith in
      let apart : 2 ^ 1074 ≡ 2 ^ j * 2 ^ (1074 - j) = ap (λ n. 2 ^ n) whole ∙ pow-add 2 j (1074 - j) in
      let shared = cancel x s a (2 ^ j) (2 ^ (1074 - j)) (pow_pos j) (subst (λ c. HasValue x s (a * 2 ^ j) c) apart v) in
      let shift : 1074 - j ≡ 1075 - suc j = omega arith in
      let exact = subst (λ n. IsSame (over (pos (a * 1000)) (2 ^ n)) (measured_thousandths x)) shift (thousand x s a (2 ^ (1074 - j)) r shared) in
      record { bounded = omega arith; least = λ none. absurd (omega arith); leading = λ _. exact }

-- the exponent and the digits in the bits of a number
abbrev pub exponent : ℕ → ℕ
exponent b = b % 2 ^ 63 / 2 ^ 52

abbrev pub digits : ℕ → ℕ
digits b = b % 2 ^ 63 % 2 ^ 52

-- a number in range has the exponent and the digits of its bits
pub by_bits : (x : Float) → IsTrue (fits binary64 x) → IsMeasuredInRange x → HasDigits x (exponent (to_bits binary64 x)) (digits (to_bits binary64 x))
unfolding of_bits
by_bits x held r =
    let b = to_bits binary64 x in
    let sign = leb (2 ^ 63) b in
    let same : digits b ≡ b % 2 ^ 52 = omega arith in
    let is : of_fields binary64 sign (exponent b) (digits b) ≡ x = ap (of_fields binary64 sign (exponent b)) same ∙ of_bits-to_bits binary64 x (T_from_true (fits binary64 x) held) in
    subst (λ y. HasDigits y (exponent b) (digits b)) is (has_digits sign (digits b) (exponent b) (subst IsMeasuredInRange (sym is) r))

pub a_number : (x : Float) → IsMeasuredInRange x → T (not (is_nan x))
unfolding is_nan
a_number nan r = absurd r
a_number (inf n) r = absurd r
a_number (fin n m e) r = tt
