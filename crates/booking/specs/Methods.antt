-- The calculation methods: y is the building's life in years, and s the span of an entry.
use Rattle.std.specs.Prelude.{ℕ, ◌/◌, Bool, not, ◌==◌, ◌≡◌, Result}
use Rattle.domain.specs.Ranges.{IsBetween}
use Rattle.booking.specs.declared.method.CalculationMethod.{CalculationMethod}
use Rattle.booking.specs.declared.method.CalculationMethod.TheVariants.{OneOff, DistanceBased, Annual, Replacement, Leakage}
use Rattle.refusals.specs.declared.refusal.Refusal.{Refusal}
use Rattle.refusals.specs.declared.refusal.Refusal.TheVariants.{InvalidSpan}
use Rattle.refusals.specs.Refusals.{GivesOrRefusesBy}
use Rattle.booking.specs.declared.method.Terms.{Terms}
use Rattle.domain.specs.Numbers.{unit_number}
use Rattle.domain.specs.declared.factor_unit.FactorUnit.TheVariants.{TonneKilometre, Kilogram}

-- the span is up to 10,000 kilometres, 1 to 100 years, or 0
abbrev pub SpanFits : CalculationMethod → ℕ → Type 0
SpanFits OneOff s = IsBetween 0 s 0
SpanFits DistanceBased s = IsBetween 0 s 10000
SpanFits Annual s = IsBetween 0 s 0
SpanFits Replacement s = IsBetween 1 s 100
SpanFits Leakage s = IsBetween 1 s 100

-- what an entry is multiplied by: 1, its kilometres, the building's life, or the number of replacements, without its
-- fraction
abbrev pub multiplier : CalculationMethod → ℕ → ℕ → ℕ
multiplier OneOff y s = 1
multiplier DistanceBased y s = s
multiplier Annual y s = y
multiplier Replacement y s = y / s
multiplier Leakage y s = y

-- what it is divided by: the years of the equipment, or 1
abbrev pub divisor : CalculationMethod → ℕ → ℕ
divisor Leakage s = s
divisor k s = 1

-- tonne-kilometres (5) fit distances and nothing else, and kilograms (4) alone fit leakage
abbrev pub unit_fits : CalculationMethod → ℕ → Bool
unit_fits DistanceBased u = u == unit_number TonneKilometre
unit_fits Leakage u = u == unit_number Kilogram
unit_fits k u = not (u == unit_number TonneKilometre)

-- r is what an entry with the span s is multiplied and divided by, in a building with a life of y years, if the span
-- fits
abbrev pub GivesTerms : CalculationMethod → ℕ → ℕ → Result Terms Refusal → Type 0
GivesTerms k y s r =
    GivesOrRefusesBy (SpanFits k s) InvalidSpan (λ t. (t.multiplier ≡ multiplier k y s) × (t.divisor ≡ divisor k s)) r
