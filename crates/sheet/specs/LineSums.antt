-- The sums of lines by row, and the exact sums of entries.
use Rattle.std.specs.Prelude.{ℕ, Bool, if◌then◌else◌, List, map, ℤ, pos, Some, None, Option, nat_le}
use Rattle.std.specs.List.{flat_map}
use Rattle.std.specs.Option.{option_to_list}
use Rattle.exact.specs.Adding.{fraction_sum, fraction_negation}
use Rattle.exact.specs.Rounding.{Fraction, over}
use Rattle.factors.specs.Maps.{FactorMap}
use Rattle.domain.specs.declared.entry.Entry.{Entry}
use Rattle.booking.specs.Booking.{LineNumbers, exact_grams, booked_line}
use Rattle.booking.specs.Rows.{is_subtracted}
use Rattle.booking.specs.Emissions.{max_grams, signed_grams}
use Rattle.totals.specs.Sums.{Sums, sum_in, grams_in, count_in}
use Rattle.sheet.specs.Places.{PlaceNumbers}

-- a line's row, with its grams as they count there, and with a count of one
abbrev pub row_grams : LineNumbers → ℕ × ℤ
row_grams l = (l.row, signed_grams (is_subtracted l.row) l.grams)

abbrev pub row_count : LineNumbers → ℕ × ℕ
row_count l = (l.row, 1)

-- the sums of lines over any choice of rows: their grams and their number
abbrev pub sums_of_lines : List LineNumbers → Sums
sums_of_lines ls = record {
  grams = λ choice. grams_in choice (map row_grams ls);
  counts = λ choice. count_in choice (map row_count ls);
}

-- the line, if its grams are in range
abbrev pub line_in_range : Option LineNumbers → Option LineNumbers
line_in_range None = None
line_in_range (Some l) = if nat_le l.grams max_grams then Some l else None

-- the lines that places hold
abbrev pub held_lines : List PlaceNumbers → List LineNumbers
held_lines held = flat_map (λ t. option_to_list (line_in_range t.line)) held

-- entries in a building with a life of y years, at the factors of a map
module _ (y : ℕ) (factor_map : FactorMap) where
  -- the sums of entries, as they are booked
  abbrev pub booked_sums : List Entry → Sums
  booked_sums es = sums_of_lines (map (booked_line y factor_map) es)

  -- an entry's row, and its exact grams of booked thousandths, as they count there
  abbrev pub exact_emissions : Entry → ℕ × Fraction
  exact_emissions e =
      let grams = exact_grams y factor_map e in
      (e.head.row, if is_subtracted e.head.row then fraction_negation grams else grams)

  -- the exact sum of the entries in chosen rows
  abbrev pub exact_sum_in : (ℕ → Bool) → List Entry → Fraction
  exact_sum_in choice es = sum_in (over (pos 0) 1) fraction_sum choice (map exact_emissions es)
