-- The worked figures.
use Rattle.std.specs.Prelude.{◌≡◌, ℕ, false, List, [], ◌∷◌, pos, neg_ℤ}
use Rattle.std.specs.Float.{binary64}
use Rattle.std.specs.Float.Ieee.{round}
use Rattle.refusals.specs.Refusals.{AllHold}
use Rattle.factors.specs.BuiltIn.{factor_per, built_in_map}
use Rattle.factors.specs.Layers.{recycled_map}
use Rattle.factors.specs.Maps.{FactorMap, has}
use Rattle.domain.specs.declared.entry.Entry.{Entry}
use Rattle.domain.specs.declared.entry.Quantity.TheVariants.{Counted, Measured}
use Rattle.booking.specs.Booking.{booking_conditions, booked_line}
use Rattle.booking.specs.Quantities.{IsQuantityInRange, booked_thousandths}
use Rattle.figures.specs.Headings.{Prints}
use Rattle.figures.specs.Withdrawals.{IsRefusedBy, NoneCounts, CountsAt}

-- an entry of the given counted thousandths
abbrev pub entry_of : (row span code thousandths : ℕ) → Entry
entry_of row span code thousandths =
    record { head = record { row = row; span = span; code = code }; quantity = Counted thousandths }

-- the entry can be booked, in a building with a life of y years, at the given grams
abbrev pub ComesTo : ℕ → FactorMap → Entry → ℕ → Type 0
ComesTo y factor_map e grams =
    AllHold (booking_conditions y factor_map e) × ((booked_line y factor_map e).grams ≡ grams)

-- the binary64 number nearest to n / d is booked at the given thousandths
abbrev pub Measures : (n d thousandths : ℕ) → Type 0
Measures n d thousandths =
    let quantity = Measured (round binary64 false n d) in
    IsQuantityInRange quantity × (booked_thousandths quantity ≡ thousandths)

-- a thousandth of a tonne at factors of 5,000 and 4,999; 0.0625 and 0.0624 measured; a kilogram of R-134a in equipment
-- that lasts 15 years; 30 tonnes over 500 kilometres at a factor of 1,290; recycled material where the new one has a
-- factor of 5; three headings of 400 grams, and two of 500 and -1,000; and, after a withdrawal at revision 2, how an
-- entry at 1 is refused, that nothing counts then, and that an entry at 3 counts
abbrev pub figures : List (Type 0)
figures =
    ComesTo 1 (λ c. has (factor_per 5000 1)) (entry_of 1 0 7 1) 1
    ∷ ComesTo 1 (λ c. has (factor_per 4999 1)) (entry_of 1 0 7 1) 0
    ∷ Measures 625 10000 63
    ∷ Measures 624 10000 62
    ∷ ComesTo 50 built_in_map (entry_of 21 15 102 1000) 4766667
    ∷ ComesTo 50 (λ c. has (factor_per 1290 5)) (entry_of 2 500 7 30000) 1935000
    ∷ (recycled_map (λ c. has (factor_per 5 1)) 1000007 ≡ has (factor_per 3 1))
    ∷ Prints (pos 400 ∷ (pos 400 ∷ (pos 400 ∷ []))) (pos 0 ∷ (pos 1 ∷ (pos 0 ∷ [])))
    ∷ Prints (pos 500 ∷ (neg_ℤ (pos 1000) ∷ [])) (pos 1 ∷ (neg_ℤ (pos 1) ∷ []))
    ∷ IsRefusedBy 1 21
    ∷ NoneCounts 1
    ∷ CountsAt 1 3
    ∷ []

-- each fact holds
abbrev pub AllTrue : List (Type 0) → Type 0
AllTrue [] = Unit {0}
AllTrue (P ∷ ps) = P × AllTrue ps
