-- Distances between whole numbers and fractions, counted in halves, add up.
use Rattle.std.proofs.Common.{◌≡◌, ℕ, ◌+◌, ◌*◌, ℤ, pos, ◌+ℤ◌, ◌*ℤ◌, ◌≤ℤ◌, neg_ℤ, ap, ◌∙◌, mul_comm, arith}
use Rattle.std.proofs.lemmas.Int.{ints}
use Rattle.exact.specs.Rounding.{Fraction, over, IsWithinHalf}
use Rattle.exact.specs.Adding.{fraction_sum, fraction_negation}
use Rattle.exact.proofs.Products.{negative, scale_le, apart, doubled, scaled}

-- the whole number r is at most n halves away from x
pub record IsWithinHalves (n : ℕ) (r : ℤ) (x : Fraction) : Type 0 where
  pub least : (pos 2 *ℤ (r *ℤ pos x.divisor)) ≤ℤ (pos 2 *ℤ x.numerator +ℤ pos (n * x.divisor))
  pub most : (pos 2 *ℤ x.numerator) ≤ℤ (pos 2 *ℤ (r *ℤ pos x.divisor) +ℤ pos (n * x.divisor))

-- 0 is at most no half away from the fraction 0, and what is within a half is at most one half away
pub none_away : IsWithinHalves 0 (pos 0) (over (pos 0) 1)
none_away = record { least = omega (arith, ints); most = omega (arith, ints) }

pub one_away : {r : ℤ} {x : Fraction} → IsWithinHalf r x → IsWithinHalves 1 r x
one_away h = record { least = omega (arith, ints, h.least); most = omega (arith, ints, h.most) }

-- with both signs changed, the distance is the same
pub away_negated : {n : ℕ} {r : ℤ} {x : Fraction} → IsWithinHalves n r x → IsWithinHalves n (neg_ℤ r) (fraction_negation x)
away_negated {n} {r} {x} h =
    let e = negative r x.divisor in
    record { least = omega (arith, ints, h.most); most = omega (arith, ints, h.least) }

-- the distance between two sums is at most the sum of the distances
pub away_plus : {m n : ℕ} {r s : ℤ} {x y : Fraction} → IsWithinHalves m r x → IsWithinHalves n s y → IsWithinHalves (m + n) (r +ℤ s) (fraction_sum x y)
away_plus {m} {n} {r} {s} {x} {y} a b =
    let c = x.divisor in
    let d = y.divisor in
    let rc = scaled r c d in
    let sd = scaled s d c ∙ ap (λ k. pos 2 *ℤ (s *ℤ pos k)) (mul_comm d c) in
    let xd = doubled x.numerator d in
    let yc = doubled y.numerator c in
    let sum = apart r s (c * d) in
    let mc : m * c * d ≡ m * (c * d) = omega arith in
    let nd : n * d * c ≡ n * (c * d) = omega (arith, mul_comm d c) in
    record {
      least = omega (arith, ints, scale_le d a.least, scale_le c b.least, apart (pos 2 *ℤ x.numerator) (pos (m * c)) d, apart (pos 2 *ℤ y.numerator) (pos (n * d)) c);
      most = omega (arith, ints, scale_le d a.most, scale_le c b.most, apart (pos 2 *ℤ (r *ℤ pos c)) (pos (m * c)) d, apart (pos 2 *ℤ (s *ℤ pos d)) (pos (n * d)) c);
    }
