-- Rounding: the whole number nearest to a fraction, and the laws that it keeps.
use Rattle.std.specs.Prelude.{◌≡◌, ℕ, ◌*◌, ◌<◌, ℤ, pos, ◌+ℤ◌, ◌*ℤ◌, ◌≤ℤ◌, unsigned_abs}
use Rattle.std.specs.Int.Signed.{shr_z}

-- an exact number, as a fraction of whole numbers
pub record Fraction : Type 0 where
  pub numerator : ℤ
  pub divisor : ℕ

-- the fraction n / d
abbrev pub over : ℤ → ℕ → Fraction
over n d = record { numerator = n; divisor = d }

-- the divisor of x is positive
abbrev pub HasPositiveDivisor : Fraction → Type 0
HasPositiveDivisor x = 0 < x.divisor

-- x is no larger than y
abbrev pub IsNoLarger : Fraction → Fraction → Type 0
IsNoLarger x y = (x.numerator *ℤ pos y.divisor) ≤ℤ (y.numerator *ℤ pos x.divisor)

-- x and y are the same number, perhaps with different divisors
abbrev pub IsSame : Fraction → Fraction → Type 0
IsSame x y = x.numerator *ℤ pos y.divisor ≡ y.numerator *ℤ pos x.divisor

-- the whole number r is at most a half away from x
pub record IsWithinHalf (r : ℤ) (x : Fraction) : Type 0 where
  pub least : (pos 2 *ℤ (r *ℤ pos x.divisor)) ≤ℤ (pos 2 *ℤ x.numerator +ℤ pos x.divisor)
  pub most : (pos 2 *ℤ x.numerator) ≤ℤ (pos 2 *ℤ (r *ℤ pos x.divisor) +ℤ pos x.divisor)

-- x is exactly a half above the whole number r
abbrev pub IsHalfAbove : ℤ → Fraction → Type 0
IsHalfAbove r x = pos 2 *ℤ x.numerator ≡ pos 2 *ℤ (r *ℤ pos x.divisor) +ℤ pos x.divisor

-- r is the whole number nearest to x, or the upper one where two are equally near
pub record IsNearest (r : ℤ) (x : Fraction) : Type 0 where
  pub near : IsWithinHalf r x
  pub upper : IsHalfAbove r x → ⊥

-- the whole number nearest to x, a half going up: x plus a half, rounded down; `shr_z n d` is n / d rounded down
unfoldable pub nearest_whole : Fraction → ℤ
nearest_whole x = shr_z (pos 2 *ℤ x.numerator +ℤ pos x.divisor) (2 * x.divisor)

-- the natural number nearest to n / d, a half going up
abbrev pub rounded_quotient : ℕ → ℕ → ℕ
rounded_quotient n d = unsigned_abs (nearest_whole (over (pos n) d))

-- the laws of rounding: only the nearest number is given, a whole number stays as it is, and a larger fraction never
-- gives a smaller number
pub record IsRounding (round : Fraction → ℤ) : Type 0 where
  pub is_nearest : (x : Fraction) → HasPositiveDivisor x → IsNearest (round x) x
  pub only : (x : Fraction) (r : ℤ) → HasPositiveDivisor x → IsNearest r x → r ≡ round x
  pub stays : (r : ℤ) (d : ℕ) → 0 < d → round (over (r *ℤ pos d) d) ≡ r
  pub monotone : (x y : Fraction) → HasPositiveDivisor x → HasPositiveDivisor y → IsNoLarger x y → round x ≤ℤ round y
