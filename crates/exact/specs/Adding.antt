-- Sums and negatives of fractions.
use Rattle.std.specs.Prelude.{◌*◌, pos, ◌+ℤ◌, ◌*ℤ◌, neg_ℤ}
use Rattle.exact.specs.Rounding.{Fraction, over}

-- the sum of x and y
abbrev pub fraction_sum : Fraction → Fraction → Fraction
fraction_sum x y = over (x.numerator *ℤ pos y.divisor +ℤ y.numerator *ℤ pos x.divisor) (x.divisor * y.divisor)

-- x with its sign changed
abbrev pub fraction_negation : Fraction → Fraction
fraction_negation x = over (neg_ℤ x.numerator) x.divisor
