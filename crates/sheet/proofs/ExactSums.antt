-- Entries as they are booked, compared with their exact grams.
use Rattle.std.proofs.Common.{◌≡◌, ℕ, ◌+◌, List, [], ◌∷◌, ◌++◌, map, Some, None, Option, option_map, Bool, true, false, if◌then◌else◌, nat_le, ℤ, pos, ◌+ℤ◌, sym, refl, ap, ◌∙◌, arith}
use Rattle.std.proofs.Math.Nat.{mul-pos}
use Rattle.std.proofs.lemmas.List.{map-append}
use Rattle.std.proofs.lemmas.List.Elements.{All-from_recursion, All-map}
use Rattle.std.specs.List.{AllByRecursion}
use Rattle.std.specs.Option.{option_to_list}
use Rattle.exact.specs.Adding.{fraction_sum, fraction_negation}
use Rattle.exact.specs.Rounding.{Fraction, HasPositiveDivisor}
use Rattle.exact.proofs.Halves.{IsWithinHalves, none_away, one_away, away_negated, away_plus}
use Rattle.refusals.specs.Refusals.{AllHold}
use Rattle.factors.specs.Maps.{FactorMap}
use Rattle.domain.specs.declared.entry.Entry.{Entry}
use Rattle.booking.specs.Booking.{booked_line, booking_conditions}
use Rattle.booking.specs.Rows.{IsRowNumber, is_subtracted}
use Rattle.booking.specs.Emissions.{max_grams, signed_grams}
use Rattle.booking.proofs.BookedEntries.{row_kept, grams_kept, grams_near, exact_divides}
use Rattle.totals.specs.Sums.{sum_in}
use Rattle.pages.proofs.Parts.{Additive, additive}
use Rattle.sheet.specs.LineSums.{row_grams, row_count, line_in_range, held_lines, booked_sums, exact_emissions, exact_sum_in}
use Rattle.sheet.specs.Rolls.{entries_of}
use Rattle.sheet.specs.RollNotes.{RollNote, entry_conditions, note_place}

-- a whole number is at most n halves away from a fraction whose divisor is not 0
pub record Away (n : ℕ) (g : ℤ) (x : Fraction) : Type 0 where
  pub divides : HasPositiveDivisor x
  pub within : IsWithinHalves n g x

away_signed : {g : ℕ} {x : Fraction} (t : Bool) → Away 1 (pos g) x → Away 1 (signed_grams t g) (if t then fraction_negation x else x)
away_signed true h = record { divides = h.divides; within = away_negated h.within }
away_signed false h = h

-- one more, if it is chosen
one_more : {n : ℕ} {g h : ℤ} {x y : Fraction} (t : Bool) → Away 1 g x → Away n h y → Away (if t then 1 + n else n) (if t then g +ℤ h else h) (if t then fraction_sum x y else y)
one_more true a b = record { divides = mul-pos a.divides b.divides; within = away_plus a.within b.within }
one_more false a b = b

module _ (y : ℕ) (factor_map : FactorMap) where
  -- an entry that can be booked
  abbrev pub Fit : Entry → Type 0
  Fit e = AllHold (booking_conditions y factor_map e)

  abbrev pub Sound : RollNote → Type 0
  Sound n = AllHold (entry_conditions y factor_map n.entry)

  -- an entry's grams, as they count, are at most a half away from its exact grams
  one_emission : (e : Entry) → Fit e → Away 1 (row_grams (booked_line y factor_map e)).1 (exact_emissions y factor_map e).1
  one_emission e k =
      away_signed (is_subtracted e.head.row) (record { divides = exact_divides y factor_map e k; within = one_away (grams_near y factor_map e k) })

  -- the grams of n chosen entries are at most n halves away from their exact sum
  pub away_sum : (choice : ℕ → Bool) (es : List Entry) → AllByRecursion Fit es → Away ((booked_sums y factor_map es).counts choice) ((booked_sums y factor_map es).grams choice) (exact_sum_in y factor_map choice es)
  unfolding sum_in
  away_sum choice [] a = record { divides = omega arith; within = none_away }
  away_sum choice (e ∷ es) a = one_more (choice e.head.row) (one_emission e a.0) (away_sum choice es a.1)

  -- the entries have the numbers of rows, so their sums split
  rows_kept : (es : List Entry) → AllByRecursion Fit es → AllByRecursion (λ l. IsRowNumber l.row) (map (booked_line y factor_map) es)
  rows_kept [] a = tt
  rows_kept (e ∷ es) a = (row_kept y factor_map e a.0, rows_kept es a.1)

  pub sums_add : (es : List Entry) → AllByRecursion Fit es → Additive (booked_sums y factor_map es)
  sums_add es a =
      let ls = map (booked_line y factor_map) es in
      let rows = All-from_recursion (λ l. IsRowNumber l.row) ls (rows_kept es a) in
      additive (map row_grams ls) (map row_count ls) (All-map (λ w. IsRowNumber w.0) row_grams ls rows) (All-map (λ w. IsRowNumber w.0) row_count ls rows)

  -- the line of an entry that can be booked is in range
  line_of : (o : Option Entry) → AllHold (entry_conditions y factor_map o) → option_to_list (line_in_range (option_map (booked_line y factor_map) o)) ≡ map (booked_line y factor_map) (option_to_list o)
  line_of None k = refl
  line_of (Some e) k =
      let within : nat_le (booked_line y factor_map e).grams max_grams ≡ true = grind (arith, grams_kept y factor_map e k) in
      ap (λ t. option_to_list (if t then Some (booked_line y factor_map e) else None)) within

  -- the lines of notes' places are those of their entries, if these can be booked
  pub lines_taken : (ns : List RollNote) → AllByRecursion Sound ns → held_lines (map (note_place y factor_map) ns) ≡ map (booked_line y factor_map) (entries_of ns)
  lines_taken [] a = refl
  lines_taken (n ∷ ns) a =
      (λ i. line_of n.entry a.0 i ++ lines_taken ns a.1 i) ∙ sym (map-append (booked_line y factor_map) (option_to_list n.entry) (entries_of ns))

  -- and the entries can then be booked
  pub entries_kept : (ns : List RollNote) → AllByRecursion Sound ns → AllByRecursion Fit (entries_of ns)
  entries_kept [] a = tt
  entries_kept (n ∷ ns) a = with_entry n.entry a.0 (entries_kept ns a.1)
    where
      with_entry : (o : Option Entry) → AllHold (entry_conditions y factor_map o) → AllByRecursion Fit (entries_of ns) → AllByRecursion Fit (option_to_list o ++ entries_of ns)
      with_entry None k more = more
      with_entry (Some e) k more = (k, more)
