-- Totals that are added up by heading, as far as a loop over the rows has come.
use Rattle.std.proofs.Common.{map, FitsSigned, w64, ◌≡◌, ℕ, ◌+◌, ◌-◌, ◌<◌, ◌≤◌, Bool, List, length, get_or, set, drop, replicate, sum_by, sum, ℤ, pos, ◌+ℤ◌, unsigned_abs, refl, sym, ap, ◌∙◌, arith}
use Rattle.std.specs.List.{range_with_len}
use Rattle.std.proofs.lemmas.List.{length-set, length-replicate, get_or-map}
use Rattle.std.proofs.lemmas.List.Sums.{sum_by-drop_more}
use Rattle.std.proofs.lemmas.List.FromFn.{get_or-range_with_len}
use Rattle.booking.specs.declared.row.Row.TheVariants.{Production}
use Rattle.booking.specs.declared.row.TheConstants.Row.{ALL}
use Rattle.booking.specs.Rows.{row_number}
use Rattle.domain.specs.Ranges.{IsBetween}
use Rattle.pages.specs.Cuts.{Assignment, IsCut}
use Rattle.pages.specs.Pages.{heading_sums}
use Rattle.totals.specs.Sizes.{max_total_grams}
use Rattle.totals.specs.Sums.{sum_in, numbered_rows, sums_of}
use Rattle.totals.specs.declared.totals.Totals.{Totals}
use Rattle.totals.proofs.Adding.{Adds, whole, natural, part, added, one_more, nothing, no_more, sums_in, size_most, held, in_bounds_fits, in_bounds_kept, sizes_added, counts_added}

-- the row at a place has the next number
row_at : (i : ℕ) → i < 22 → row_number (get_or ALL i Production) ≡ i + 1
row_at i l =
    let same : map row_number ALL ≡ range_with_len 1 22 = refl in
    sym (get_or-map row_number ALL i Production 1 l) ∙ ap (λ ns. get_or ns i 1) same ∙ get_or-range_with_len 1 22 i 1 l ∙ omega arith

-- h is the heading of the row at place i
pub record HeadingAt (cut : Assignment) (i h : ℕ) : Type 0 where
  pub is : h ≡ cut.heading (i + 1)
  pub within : IsBetween 1 h 22
  pub row : i < 22

-- the heading is one of the places that are added to
pub heading_at : {cut : Assignment} {i h : ℕ} → IsCut cut → i < 22 → h ≡ cut.heading (row_number (get_or ALL i Production)) → HeadingAt cut i h
heading_at {cut} {i} {h} lawful l e =
    let next : h ≡ cut.heading (i + 1) = e ∙ ap cut.heading (row_at i l) in
    let w = lawful.every (i + 1) (omega arith, omega arith) in
    record { is = next; within = (omega (arith, w), omega (arith, w, lawful.few)); row = l }

-- what is under the headings, with the rows from place i on, sums to all rows
pub record Moved {X : Type 0} (none : X) (plus : X → X → X) (cut : Assignment) (xs heading_sums : List X) (i : ℕ) : Type 0 where
  pub rows : length xs ≡ 22
  pub places : length heading_sums ≡ 22
  pub all : (choice : ℕ → Bool) → plus (sum_in none plus choice (numbered_rows 1 heading_sums)) (sum_in none plus (λ row. choice (cut.heading row)) (numbered_rows (i + 1) (drop i xs))) ≡ sum_in none plus (λ row. choice (cut.heading row)) (numbered_rows 1 xs)

module _ {X : Type 0} {none : X} {plus : X → X → X} (laws : Adds none plus) {cut : Assignment} {xs : List X} where
  -- at first no row has moved, then one more, and in the end all have
  moved_none : length xs ≡ 22 → Moved none plus cut xs (replicate 22 none) 0
  moved_none rows = record {
    rows = rows;
    places = length-replicate 22 none;
    all = λ choice. rw (nothing laws choice 1 22) (laws.with_none _);
  }

  moved_more : {heading_sums : List X} {i h : ℕ} → Moved none plus cut xs heading_sums i → HeadingAt cut i h → Moved none plus cut xs (set heading_sums (h - 1) (plus (get_or heading_sums (h - 1) none) (get_or xs i none))) (i + 1)
  moved_more {heading_sums} {i} {h} m at =
      let x = get_or xs i none in
      let place : 1 + (h - 1) ≡ cut.heading (i + 1) = (let e : 1 + (h - 1) ≡ h = omega (arith, at.within) in e ∙ at.is) in
      record {
        rows = m.rows;
        places = length-set heading_sums (h - 1) _ ∙ m.places;
        all = λ choice.
            let chosen = λ (row : ℕ). choice (cut.heading row) in
            let more = added laws choice 1 heading_sums (h - 1) none x (omega (arith, m.places, at.within)) in
            let less = one_more laws chosen (i + 1) xs i none (omega (arith, m.rows, at.row)) in
            let all = laws.apart (sum_in none plus choice (numbered_rows 1 heading_sums)) (part none chosen (i + 1) x) (sum_in none plus chosen (numbered_rows (i + 1 + 1) (drop (i + 1) xs))) in
            cc (more, less, all, place, m.all choice);
      }

  moved_all : {heading_sums : List X} {i : ℕ} → Moved none plus cut xs heading_sums i → 22 ≤ i → (choice : ℕ → Bool) → sum_in none plus choice (numbered_rows 1 heading_sums) ≡ sum_in none plus (λ row. choice (cut.heading row)) (numbered_rows 1 xs)
  moved_all {heading_sums} {i} m l choice =
      let s = sum_in none plus choice (numbered_rows 1 heading_sums) in
      cc (laws.order s none, laws.with_none s, no_more laws (λ row. choice (cut.heading row)) (i + 1) xs i (omega (arith, m.rows)), m.all choice)

-- the loop over the rows has come to place i
pub record SoFar (cut : Assignment) (t : Totals) (grams : List ℤ) (counts : List ℕ) (i : ℕ) : Type 0 where
  pub grams_moved : Moved (pos 0) ◌+ℤ◌ cut t.grams grams i
  pub counts_moved : Moved 0 ◌+◌ cut t.counts counts i
  pub in_bounds : sum_by unsigned_abs grams + sum_by unsigned_abs (drop i t.grams) ≤ sum_by unsigned_abs t.grams
  pub few : sum counts + sum (drop i t.counts) ≡ sum t.counts

-- before the first row
pub none_yet : {cut : Assignment} {t : Totals} → length t.grams ≡ 22 → length t.counts ≡ 22 → SoFar cut t (replicate 22 (pos 0)) (replicate 22 0) 0
none_yet g n = record { grams_moved = moved_none whole g; counts_moved = moved_none natural n; in_bounds = omega arith; few = omega arith }

module _ {cut : Assignment} {t : Totals} {grams : List ℤ} {counts : List ℕ} {i h : ℕ} (so_far : SoFar cut t grams counts i) (at : HeadingAt cut i h) where
  -- the value of the heading and the one that is added are together within the bound
  sizes : unsigned_abs (get_or grams (h - 1) (pos 0)) + unsigned_abs (get_or t.grams i (pos 0)) ≤ max_total_grams
  sizes =
      omega (arith, size_most grams (h - 1) (pos 0) (omega (arith, so_far.grams_moved.places, at.within)), sum_by-drop_more unsigned_abs t.grams i (pos 0) (omega (arith, so_far.grams_moved.rows, at.row)), so_far.in_bounds, t.grams_within)

  pub sum_fits : FitsSigned w64 (held (get_or grams (h - 1) (pos 0)) +ℤ held (get_or t.grams i (pos 0)))
  sum_fits = in_bounds_fits (get_or grams (h - 1) (pos 0)) (get_or t.grams i (pos 0)) sizes

  -- after one more row
  pub one_row : SoFar cut t (set grams (h - 1) (held (held (get_or grams (h - 1) (pos 0)) +ℤ held (get_or t.grams i (pos 0))))) (set counts (h - 1) (get_or counts (h - 1) 0 + get_or t.counts i 0)) (i + 1)
  one_row =
      let exact = in_bounds_kept (get_or grams (h - 1) (pos 0)) (get_or t.grams i (pos 0)) sizes in
      rw exact (record {
        grams_moved = moved_more whole so_far.grams_moved at;
        counts_moved = moved_more natural so_far.counts_moved at;
        in_bounds = omega (arith, sizes_added grams (h - 1) (pos 0) (get_or t.grams i (pos 0)) (omega (arith, so_far.grams_moved.places, at.within)), sum_by-drop_more unsigned_abs t.grams i (pos 0) (omega (arith, so_far.grams_moved.rows, at.row)), so_far.in_bounds);
        few = omega (arith, counts_added counts (h - 1) 0 (get_or t.counts i 0) (omega (arith, so_far.counts_moved.places, at.within)), sum_by-drop_more (λ x. x) t.counts i 0 (omega (arith, so_far.counts_moved.rows, at.row)), so_far.few);
      })

-- after the last row
pub all_rows : {cut : Assignment} {t : Totals} {grams : List ℤ} {counts : List ℕ} {i : ℕ} → SoFar cut t grams counts i → 22 ≤ i → sums_in (numbered_rows 1 grams) (numbered_rows 1 counts) ≡ heading_sums cut (sums_of t)
all_rows so_far l = λ j. record { grams = λ choice. moved_all whole so_far.grams_moved l choice j; counts = λ choice. moved_all natural so_far.counts_moved l choice j }
