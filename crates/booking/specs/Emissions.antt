-- The emissions of thousandths of a unit, at tenths of a gram per unit.
use Rattle.std.specs.Prelude.{ℕ, ◌*◌, ◌≤◌, Bool, if◌then◌else◌, ℤ, pos, neg_ℤ, ◌≡◌, Result}
use Rattle.refusals.specs.declared.refusal.Refusal.{Refusal}
use Rattle.refusals.specs.declared.refusal.Refusal.TheVariants.{TooLarge}
use Rattle.refusals.specs.Refusals.{GivesOrRefusesBy}
use Rattle.booking.specs.declared.method.Terms.{Terms}
use Rattle.exact.specs.Rounding.{rounded_quotient}

-- the emissions before they are divided: q thousandths, at the amount f, m times
abbrev pub product : ℕ → ℕ → ℕ → ℕ
product q f m = q * f * m

-- a product that is not refused
abbrev pub IsProductInRange : ℕ → Type 0
IsProductInRange p = p ≤ 1000000000000000000

-- what the product is divided by to give grams
abbrev pub exact_divisor : ℕ → ℕ
exact_divisor d = 10000 * d

-- the most grams of a product in range, which is divided by at least 10,000
abbrev pub max_grams : ℕ
max_grams = 100000000000000

-- grams that a booked line can have
abbrev pub IsLineGrams : ℕ → Type 0
IsLineGrams g = g ≤ max_grams

-- grams with the sign by which they count in a sum
abbrev pub signed_grams : Bool → ℕ → ℤ
signed_grams subtracted g = if subtracted then neg_ℤ (pos g) else pos g

-- r is the grams of q thousandths at the amount f: those nearest to the exact ones, unless the product is too large
abbrev pub GivesGrams : ℕ → ℕ → Terms → Result ℕ Refusal → Type 0
GivesGrams q f t r =
    GivesOrRefusesBy (IsProductInRange (product q f t.multiplier)) TooLarge
    (λ g. g ≡ rounded_quotient (product q f t.multiplier) (exact_divisor t.divisor)) r
