-- Adding up the lines of places, row by row.
use Rattle.std.proofs.Common.{◌≡◌, ℕ, ◌+◌, ◌-◌, ◌*◌, ◌<◌, ◌≤◌, List, [], ◌∷◌, ◌++◌, length, get_or, set, drop, replicate, map, sum_by, sum, Some, None, Option, Bool, true, false, ℤ, pos, ◌+ℤ◌, unsigned_abs, refl, sym, ap, ◌∙◌, subst, arith, length-set, FitsSigned, w64, to_z, of_z}
use Rattle.std.proofs.lemmas.Int.{ints}
use Rattle.std.proofs.lemmas.List.{drop_more, drop_all}
use Rattle.std.specs.Option.{option_to_list}
use Rattle.booking.specs.declared.row.Row.{Row}
use Rattle.booking.specs.declared.line.BookedLine.{BookedLine}
use Rattle.booking.specs.Booking.{LineNumbers, line_numbers}
use Rattle.booking.specs.Rows.{IsRowNumber, row_number, is_subtracted}
use Rattle.booking.specs.Emissions.{signed_grams}
use Rattle.totals.specs.Sizes.{max_total_grams}
use Rattle.totals.specs.Sums.{sum_in, numbered_rows}
use Rattle.totals.proofs.Adding.{Adds, whole, natural, first, part, added, nothing, sums_in, sizes_added, size_most, counts_added, in_bounds_fits, in_bounds_kept}
use Rattle.sheet.specs.declared.place.Place.{Place}
use Rattle.sheet.specs.LineSums.{row_grams, row_count, line_in_range, held_lines, sums_of_lines}
use Rattle.sheet.specs.Places.{place_numbers}
use Rattle.sheet.proofs.Places.{empty}

-- for any choice of rows, the rows so far and the values still to add sum to all values
pub record ComesTo {X : Type 0} (none : X) (plus : X → X → X) (rows : List X) (left all : List (ℕ × X)) : Type 0 where
  pub comes : (choice : ℕ → Bool) → plus (sum_in none plus choice (numbered_rows 1 rows)) (sum_in none plus choice left) ≡ sum_in none plus choice all

module _ {X : Type 0} {none : X} {plus : X → X → X} (laws : Adds none plus) where
  none_added : (n : ℕ) (all : List (ℕ × X)) → ComesTo none plus (replicate n none) all all
  none_added n all = record { comes = λ choice. ap (λ z. plus z (sum_in none plus choice all)) (nothing laws choice 1 n) ∙ laws.with_none _ }

  one_added : {rows : List X} {left all : List (ℕ × X)} {row : ℕ} {x : X} (at : ℕ) → ComesTo none plus rows ((row, x) ∷ left) all → 1 + at ≡ row → at < length rows → ComesTo none plus (set rows at (plus (get_or rows at none) x)) left all
  one_added {rows} {left} {row = row} {x = x} at h is within =
      record {
        comes = λ choice.
            let rest = sum_in none plus choice left in
            let so_far = sum_in none plus choice (numbered_rows 1 rows) in
            ap (λ z. plus z rest) (added laws choice 1 rows at none x within ∙ ap (λ k. plus so_far (part none choice k x)) is)
            ∙ laws.apart so_far (part none choice row x) rest
            ∙ ap (plus so_far) (sym (first laws choice row x left))
            ∙ h.comes choice;
      }

  all_added : {rows : List X} {all : List (ℕ × X)} → ComesTo none plus rows [] all → (choice : ℕ → Bool) → sum_in none plus choice (numbered_rows 1 rows) ≡ sum_in none plus choice all
  unfolding sum_in
  all_added h choice = sym (laws.order _ none ∙ laws.with_none _) ∙ h.comes choice

-- the sums of rows so far, with these lines of the places still to add
pub record Adding (places : List Place) (left : List LineNumbers) (grams : List ℤ) (counts : List ℕ) : Type 0 where
  pub summed : ComesTo (pos 0) ◌+ℤ◌ grams (map row_grams left) (map row_grams (held_lines (map place_numbers places)))
  pub counted : ComesTo 0 ◌+◌ counts (map row_count left) (map row_count (held_lines (map place_numbers places)))

-- the lines of the places from the ith on
abbrev pub lines_from : List Place → ℕ → List LineNumbers
lines_from places i = held_lines (map place_numbers (drop i places))

-- the sums of rows after the first i places
pub record Tallied (places : List Place) (i : ℕ) (grams : List ℤ) (counts : List ℕ) : Type 0 where
  pub sums : Adding places (lines_from places i) grams counts
  pub in_bounds : sum_by unsigned_abs grams ≤ 100000000000000 * i
  pub few : sum counts ≤ i
  pub grams_rows : length grams ≡ 22
  pub counts_rows : length counts ≡ 22

pub none_tallied : (places : List Place) → Tallied places 0 (replicate 22 (pos 0)) (replicate 22 0)
none_tallied places = record {
  sums = record { summed = none_added whole 22 (map row_grams (lines_from places 0)); counted = none_added natural 22 (map row_count (lines_from places 0)) };
  in_bounds = omega arith;
  few = omega arith;
  grams_rows = refl;
  counts_rows = refl;
}

pub all_tallied : {places : List Place} {i : ℕ} {grams : List ℤ} {counts : List ℕ} → Tallied places i grams counts → length places ≤ i → sums_in (numbered_rows 1 grams) (numbered_rows 1 counts) ≡ sums_of_lines (held_lines (map place_numbers places))
all_tallied {places} {i} {grams} {counts} h end =
    let none_left : lines_from places i ≡ [] = ap (λ ps. held_lines (map place_numbers ps)) (drop_all i places end) in
    let sums = subst (λ left. Adding places left grams counts) none_left h.sums in
    (λ i. record { grams = λ choice. all_added whole sums.summed choice i; counts = λ choice. all_added natural sums.counted choice i })

-- a place's line as it is added: the index of its row, and its grams as they count there
pub record Added (place : Place) (row : ℕ) (grams : ℤ) : Type 0 where
  pub line : LineNumbers
  pub is : line_in_range (place_numbers place).line ≡ Some line
  pub in_row : IsRowNumber line.row
  pub at : 1 + row ≡ line.row
  pub counts_as : grams ≡ (row_grams line).1

row_range : (row : Row) → IsRowNumber (row_number row)
row_range row = grind arith

-- such a line, from a booked line of the code
pub as_added : {place : Place} {row : ℕ} {grams : ℤ} (line : BookedLine) → Some (line_numbers line) ≡ line_in_range (place_numbers place).line → row ≡ row_number line.row - 1 → grams ≡ signed_grams (is_subtracted (row_number line.row)) line.grams → Added place row grams
as_added line is at counts_as =
    let range = row_range line.row in
    record { line = line_numbers line; is = sym is; in_row = range; at = omega (arith, range, at); counts_as = counts_as }

size_signed : (t : Bool) (g : ℕ) → unsigned_abs (signed_grams t g) ≡ g
size_signed true g = omega (arith, ints)
size_signed false g = omega (arith, ints)

grams_in_range : (o : Option LineNumbers) (l : LineNumbers) → line_in_range o ≡ Some l → l.grams ≤ 100000000000000
grams_in_range None l e = grind arith
grams_in_range (Some m) l e = grind arith

-- a sum as the code calculates it
abbrev pub sum_of : ℤ → ℤ → ℤ
sum_of a b = to_z w64 (of_z w64 a) +ℤ to_z w64 (of_z w64 b)

module _ {places : List Place} {i : ℕ} {gs : List ℤ} {ns : List ℕ} (h : Tallied places i gs ns) (more : i < length places) where
  -- the line of the next place is the first that is still to add, if it has one
  next : {line : Option LineNumbers} → line_in_range (place_numbers (get_or places i empty)).line ≡ line → Adding places (option_to_list line ++ lines_from places (i + 1)) gs ns
  next is = subst (λ left. Adding places left gs ns) (ap (λ ps. held_lines (map place_numbers ps)) (drop_more places i empty more) ∙ ap (λ line. option_to_list line ++ lines_from places (i + 1)) is) h.sums

  -- after a place without a line
  pub passed : line_in_range (place_numbers (get_or places i empty)).line ≡ None → Tallied places (i + 1) gs ns
  passed none = record { sums = next none; in_bounds = omega (arith, h.in_bounds); few = omega (arith, h.few); grams_rows = h.grams_rows; counts_rows = h.counts_rows }

  module _ (few : length places ≤ 512) {row : ℕ} {grams : ℤ} (a : Added (get_or places i empty) row grams) where
    size : unsigned_abs grams ≤ 100000000000000
    size = rw a.counts_as (omega (arith, size_signed (is_subtracted a.line.row) a.line.grams, grams_in_range (place_numbers (get_or places i empty)).line a.line a.is))

    within_grams : row < length gs
    within_grams = omega (arith, h.grams_rows, a.at, a.in_row)

    within_counts : row < length ns
    within_counts = omega (arith, h.counts_rows, a.at, a.in_row)

    sum_in_bounds : unsigned_abs (get_or gs row (pos 0)) + unsigned_abs grams ≤ max_total_grams
    sum_in_bounds = omega (arith, size_most gs row (pos 0) within_grams, h.in_bounds, size)

    pub sum_fits : FitsSigned w64 (sum_of (get_or gs row (pos 0)) grams)
    sum_fits = in_bounds_fits (get_or gs row (pos 0)) grams sum_in_bounds

    -- after a place with a line
    tallied : Tallied places (i + 1) (set gs row (get_or gs row (pos 0) +ℤ grams)) (set ns row (get_or ns row 0 + 1))
    tallied = record {
      sums = record {
        summed = one_added whole row (rw a.counts_as (next a.is).summed) a.at within_grams;
        counted = one_added natural row (next a.is).counted a.at within_counts;
      };
      in_bounds = omega (arith, sizes_added gs row (pos 0) grams within_grams, size, h.in_bounds);
      few = omega (arith, h.few, counts_added ns row 0 1 within_counts);
      grams_rows = length-set gs row _ ∙ h.grams_rows;
      counts_rows = length-set ns row _ ∙ h.counts_rows;
    }

    -- and as the code adds it
    pub added_line : {gs' : List ℤ} {ns' : List ℕ} → gs' ≡ set gs row (to_z w64 (of_z w64 (sum_of (get_or gs row (pos 0)) grams))) → ns' ≡ set ns row (get_or ns row 0 + 1) → Tallied places (i + 1) gs' ns'
    added_line {gs'} p q =
        let g : gs' ≡ set gs row (get_or gs row (pos 0) +ℤ grams) = p ∙ ap (set gs row) (in_bounds_kept (get_or gs row (pos 0)) grams sum_in_bounds) in
        rw (g, q) tallied
