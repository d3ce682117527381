-- Booking an entry: when it is refused, its exact emissions, and its booked line.
use Rattle.std.specs.Prelude.{◌≡◌, ℕ, IsTrue, [], ◌∷◌, ◌++◌, pos, IfErr, Ok, Err, Result}
use Rattle.exact.specs.Rounding.{Fraction, over, rounded_quotient, IsWithinHalf}
use Rattle.refusals.specs.declared.lack_codes.LackCodes.{LackCodes}
use Rattle.refusals.specs.declared.refusal.Refusal.{Refusal}
use Rattle.refusals.specs.declared.refusal.Refusal.TheVariants.{UnknownRow, InvalidSpan, InvalidQuantity, InvalidUnit, TooLarge}
use Rattle.refusals.specs.Refusals.{refusal_number, lack_number, refusal_codes, Conditions, GivesOrRefuses}
use Rattle.factors.specs.Maps.{FactorAnswer, FactorMap, has, lacks}
use Rattle.domain.specs.Factors.{factor_numbers}
use Rattle.domain.specs.declared.entry.Entry.{Entry}
use Rattle.domain.specs.declared.factor.Factor.{Factor}
use Rattle.booking.specs.declared.booking.Activity.{Activity}
use Rattle.booking.specs.declared.line.BookedLine.{BookedLine}
use Rattle.booking.specs.Quantities.{IsQuantityInRange, booked_thousandths}
use Rattle.booking.specs.Methods.{SpanFits, multiplier, divisor, unit_fits}
use Rattle.booking.specs.Rows.{IsRowNumber, row_number, method}
use Rattle.booking.specs.Emissions.{product, IsProductInRange, exact_divisor}

-- the answer is a factor
abbrev pub HasFactor : FactorAnswer → Type 0
HasFactor (has factor) = Unit {0}
HasFactor (lacks code) = ⊥

-- the amount and the unit of a factor; 0 of a lack
abbrev pub amount_of : FactorAnswer → ℕ
amount_of (has factor) = factor.amount
amount_of (lacks code) = 0

abbrev pub unit_of : FactorAnswer → ℕ
unit_of (has factor) = factor.unit
unit_of (lacks code) = 0

-- the result for the code c: the factor that the source has, or both codes of its lack
abbrev pub GivesFactor : FactorAnswer → ℕ → Result Factor LackCodes → Type 0
GivesFactor answer c (Ok f) = answer ≡ has (factor_numbers f)
GivesFactor answer c (Err l) = (l.asked ≡ c) × (answer ≡ lacks l.lacking)

-- a refusal that the factor of the code c is lacking names c and the code that the source lacks
abbrev pub NamesLack : ℕ → FactorAnswer → Refusal → Type 0
NamesLack c answer f = refusal_number f ≡ lack_number → (l : ℕ) × (answer ≡ lacks l) × (refusal_codes f ≡ c ∷ l ∷ [])

-- the numbers of a booked line
pub record LineNumbers : Type 0 where
  pub row : ℕ
  pub span : ℕ
  pub code : ℕ
  pub thousandths : ℕ
  pub grams : ℕ

abbrev pub line_numbers : BookedLine → LineNumbers
line_numbers l = record {
  row = row_number l.row;
  span = l.span;
  code = l.code;
  thousandths = l.thousandths;
  grams = l.grams;
}

-- the conditions that depend on the entry alone
module _ (e : Entry) where
  abbrev pub row_condition : ℕ × Type 0
  row_condition = (refusal_number UnknownRow, IsRowNumber e.head.row)

  abbrev pub span_condition : ℕ × Type 0
  span_condition = (refusal_number InvalidSpan, SpanFits (method e.head.row) e.head.span)

  abbrev pub quantity_condition : ℕ × Type 0
  quantity_condition = (refusal_number InvalidQuantity, IsQuantityInRange e.quantity)

  -- the conditions on an entry that need no factor
  abbrev pub own_conditions : Conditions
  own_conditions = row_condition ∷ span_condition ∷ quantity_condition ∷ []

-- a is the activity of the entry e, in a building with a life of y years
pub record IsActivity (y : ℕ) (e : Entry) (a : Activity) : Type 0 where
  pub row_is : row_number a.row ≡ e.head.row
  pub method_is : a.method ≡ method e.head.row
  pub multiplies : a.terms.multiplier ≡ multiplier (method e.head.row) y e.head.span
  pub divides : a.terms.divisor ≡ divisor (method e.head.row) e.head.span
  pub counts : a.thousandths ≡ booked_thousandths e.quantity

-- an entry in a building with a life of y years, with the factors of a map
module _ (y : ℕ) (factor_map : FactorMap) (e : Entry) where
  abbrev pub factor : FactorAnswer
  factor = factor_map e.head.code

  -- its exact emissions are this product over this divisor
  abbrev pub entry_product : ℕ
  entry_product =
      product (booked_thousandths e.quantity) (amount_of factor) (multiplier (method e.head.row) y e.head.span)

  abbrev pub entry_divisor : ℕ
  entry_divisor = exact_divisor (divisor (method e.head.row) e.head.span)

  -- the conditions that depend on its factor too
  abbrev pub factor_condition : ℕ × Type 0
  factor_condition = (lack_number, HasFactor factor)

  abbrev pub unit_condition : ℕ × Type 0
  unit_condition = (refusal_number InvalidUnit, IsTrue (unit_fits (method e.head.row) (unit_of factor)))

  abbrev pub product_condition : ℕ × Type 0
  product_condition = (refusal_number TooLarge, IsProductInRange entry_product)

  -- the conditions that depend on its factor
  abbrev pub factor_conditions : Conditions
  factor_conditions = factor_condition ∷ unit_condition ∷ product_condition ∷ []

  -- all conditions for booking it
  unfoldable pub booking_conditions : Conditions
  booking_conditions = own_conditions e ++ factor_conditions

  -- its exact emissions in grams, from its booked thousandths
  abbrev pub exact_grams : Fraction
  exact_grams = over (pos entry_product) entry_divisor

  -- the grams of a line are at most half a gram away from it
  abbrev pub IsNearExact : BookedLine → Type 0
  IsNearExact line = IsWithinHalf (pos line.grams) exact_grams

  -- its line, with the grams nearest to its exact emissions
  abbrev pub booked_line : LineNumbers
  booked_line = record {
    row = e.head.row;
    span = e.head.span;
    code = e.head.code;
    thousandths = booked_thousandths e.quantity;
    grams = rounded_quotient entry_product entry_divisor;
  }

  -- r is the result of booking it
  abbrev pub Books : Result BookedLine Refusal → Type 0
  Books r =
      GivesOrRefuses booking_conditions (λ line. line_numbers line ≡ booked_line) r
      × IfErr r (NamesLack e.head.code factor)
