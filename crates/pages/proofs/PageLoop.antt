-- A page that is drawn as far as a loop over its headings has come.
use Rattle.std.proofs.Common.{◌≡◌, ℕ, ◌+◌, ◌-◌, ◌<◌, ◌≤◌, List, ◌++◌, length, get_or, set, drop, map, ℤ, pos, ◌+ℤ◌, ◌-ℤ◌, nat_eq, unsigned_abs, ◌^◌, Ok, Fits, FitsSigned, w16, w64, append_assoc, subst, refl, sym, ap, ◌∙◌, arith}
use Rattle.std.specs.List.{range_with_len}
use Rattle.std.proofs.lemmas.Int.{ints, to_z-of_z, fits_signed_from_abs}
use Rattle.std.proofs.lemmas.List.{drop_more, set_at}
use Rattle.std.proofs.lemmas.List.FromFn.{map-range_with_len_more, length-map-range_with_len}
use Rattle.totals.specs.Sizes.{max_total_grams}
use Rattle.totals.specs.Sums.{sums_of}
use Rattle.totals.specs.declared.totals.Totals.{Totals}
use Rattle.totals.proofs.Adding.{whole, natural, held}
use Rattle.totals.proofs.Choosing.{one_alone, grams_within, counts_within}
use Rattle.pages.specs.declared.figure.Figure.{Figure}
use Rattle.pages.specs.Cuts.{Assignment, IsCut}
use Rattle.pages.specs.Pages.{whole_kilograms, heading_sums, running_sum, heading_figure, page_figures, total_figure, Writes, AddUp, NeighboursAreNear}
use Rattle.pages.proofs.Parts.{additive_sums, Cutting, up_to, sum_more, sum_none, sum_all}
use Rattle.pages.proofs.Telescope.{nothing_stays, adds_up}
use Rattle.pages.proofs.Nearby.{is_rounded, near_between}

-- a number that fits is read back as it is
read_back : (z : ℤ) → unsigned_abs z < 2 ^ 63 → held z ≡ z
read_back z h = to_z-of_z w64 z (fits_signed_from_abs w64 z h)

-- the kilograms of grams within the bound are far from wrapping
small_kilograms : (g : ℤ) → unsigned_abs g ≤ max_total_grams → unsigned_abs (whole_kilograms g) ≤ 51200000000001
small_kilograms g h = let r = is_rounded g in omega (arith, ints, r.least, r.most)

-- one more figure after those that are written
figure_more : (f : ℕ → Figure) (k : ℕ) (before : List Figure) → k < length before → set (map f (range_with_len 1 k) ++ drop k before) k (f (k + 1)) ≡ map f (range_with_len 1 (k + 1)) ++ drop (k + 1) before
figure_more f k before l =
    let written = map f (range_with_len 1 k) in
    let n = length-map-range_with_len f 1 k in
    rw (drop_more before k (f 0) l, set_at written (get_or before k (f 0)) (drop (k + 1) before) (f (k + 1)) k n, map-range_with_len_more f 1 k (k + 1) (omega arith), append_assoc) refl

-- totals, and a cut with n headings
pub record Page (cut : Assignment) (t : Totals) (n : ℕ) : Type 0 where
  pub cutting : Cutting cut (sums_of t)
  pub size_is_headings : cut.size ≡ n

-- such a page, from its parts
pub page : {cut : Assignment} {n : ℕ} (t : Totals) → IsCut cut → cut.size ≡ n → length t.grams ≡ 22 → length t.counts ≡ 22 → Page cut t n
page t lawful size_is_headings g c = record { cutting = record { lawful = lawful; adds = additive_sums t g c }; size_is_headings = size_is_headings }

-- any neighbouring headings are near the sum of their grams
pub near_page : {cut : Assignment} {t : Totals} {n : ℕ} → Page cut t n → NeighboursAreNear cut (sums_of t)
near_page p i j l m = near_between p.cutting i j l m

-- totals by row, and the same totals under the headings
pub record Headed (cut : Assignment) (t u : Totals) (n : ℕ) : Type 0 where
  pub page : Page cut t n
  pub grams_under : length u.grams ≡ 22
  pub counts_under : length u.counts ≡ 22
  pub same : sums_of u ≡ heading_sums cut (sums_of t)

-- the first k headings are written
pub record Drawn (cut : Assignment) (t u : Totals) (n : ℕ) (before figures : List Figure) (grams : ℤ) (total : Figure) (k : ℕ) : Type 0 where
  pub headed : Headed cut t u n
  pub room : n ≤ length before
  pub run : grams ≡ running_sum cut (sums_of t) k
  pub kilograms : total.kilograms ≡ whole_kilograms (running_sum cut (sums_of t) k)
  pub count : total.count ≡ (sums_of t).counts (up_to cut k)
  pub figures_are : figures ≡ map (heading_figure cut (sums_of t)) (range_with_len 1 k) ++ drop k before

-- before the first heading nothing is written
pub none_drawn : {cut : Assignment} {t u : Totals} {n : ℕ} {before : List Figure} → Headed cut t u n → n ≤ length before → Drawn cut t u n before before (pos 0) (record { kilograms = pos 0; count = 0 }) 0
none_drawn headed room =
    let p = headed.page.cutting in
    let r = sum_none whole p.adds.grams p.lawful in
    record { headed = headed; room = room; run = sym r; kilograms = sym nothing_stays ∙ ap whole_kilograms (sym r); count = sym (sum_none natural p.adds.counts p.lawful); figures_are = refl }

module _ {cut : Assignment} {t u : Totals} {n : ℕ} {before figures : List Figure} {z : ℤ} {total : Figure} {k : ℕ} (drawn : Drawn cut t u n before figures z total k) where
  -- running sums do not wrap
  in_bounds : (j : ℕ) → unsigned_abs (running_sum cut (sums_of t) j) ≤ max_total_grams
  in_bounds j = grams_within t (up_to cut j)

  small : (j : ℕ) → unsigned_abs (whole_kilograms (running_sum cut (sums_of t) j)) ≤ 51200000000001
  small j = small_kilograms (running_sum cut (sums_of t) j) (in_bounds j)

  -- the total so far, read back as it is
  before_is : held total.kilograms ≡ whole_kilograms (running_sum cut (sums_of t) k)
  before_is = let s = small k in rw drawn.kilograms (read_back _ (omega arith))

  module _ (within : k < n) where
    -- there are at most 22 headings
    in_place : k < 22
    in_place = omega (arith, drawn.headed.page.cutting.lawful.few, drawn.headed.page.size_is_headings)

    -- the count of the next heading
    counts_at : get_or u.counts k 0 ≡ (heading_sums cut (sums_of t)).counts (λ h. nat_eq h (k + 1))
    counts_at =
        let l = in_place in
        sym (one_alone natural (k + 1) 1 u.counts k 0 (omega arith) (omega (arith, drawn.headed.counts_under)))
        ∙ ap (λ s. s.counts (λ h. nat_eq h (k + 1))) drawn.headed.same

    -- the running sum up to the next heading
    sum_is : z +ℤ held (get_or u.grams k (pos 0)) ≡ running_sum cut (sums_of t) (k + 1)
    sum_is =
        let l = in_place in
        let p = drawn.headed.page.cutting in
        let at : get_or u.grams k (pos 0) ≡ (heading_sums cut (sums_of t)).grams (λ h. nat_eq h (k + 1)) =
        sym (one_alone whole (k + 1) 1 u.grams k (pos 0) (omega arith) (omega (arith, drawn.headed.grams_under))) ∙ ap (λ s. s.grams (λ h. nat_eq h (k + 1))) drawn.headed.same in
        let small = grams_within t (λ row. nat_eq (cut.heading row) (k + 1)) in
        let kept = read_back ((heading_sums cut (sums_of t)).grams (λ h. nat_eq h (k + 1))) (omega arith) in
        rw at (omega (arith, ints, kept, drawn.run, sum_more whole p.adds.grams p.lawful k))

    pub sum_fits : FitsSigned w64 (z +ℤ held (get_or u.grams k (pos 0)))
    sum_fits = let l = in_bounds (k + 1) in rw sum_is (fits_signed_from_abs w64 _ (omega arith))

    run_is : held (z +ℤ held (get_or u.grams k (pos 0))) ≡ running_sum cut (sums_of t) (k + 1)
    run_is = to_z-of_z w64 _ sum_fits ∙ sum_is

    -- the count up to the next heading
    count_is : total.count + get_or u.counts k 0 ≡ (sums_of t).counts (up_to cut (k + 1))
    count_is = let p = drawn.headed.page.cutting in omega (arith, drawn.count, counts_at, sum_more natural p.adds.counts p.lawful k)

    pub count_fits : Fits w16 (total.count + get_or u.counts k 0)
    count_fits = let few = counts_within t (up_to cut (k + 1)) in rw count_is (omega arith)

    module _ {kg : ℤ} (rounds : kg ≡ whole_kilograms (held (z +ℤ held (get_or u.grams k (pos 0))))) where
      -- the kilograms up to the next heading, read back as they are
      kg_is : held kg ≡ whole_kilograms (running_sum cut (sums_of t) (k + 1))
      kg_is = let s = small (k + 1) in rw (rounds, run_is) (read_back _ (omega arith))

      pub rest_fits : FitsSigned w64 (held kg -ℤ held total.kilograms)
      rest_fits =
          let more = small (k + 1) in
          let less = small k in
          rw (kg_is, before_is) (fits_signed_from_abs w64 _ (omega (arith, ints)))

      -- what is written is the figure of the next heading
      figure_is : record { kilograms = held (held kg -ℤ held total.kilograms); count = get_or u.counts k 0 } ≡ heading_figure cut (sums_of t) (k + 1)
      figure_is =
          let e : k + 1 - 1 ≡ k = omega arith in
          let p = to_z-of_z w64 _ rest_fits ∙ rw (kg_is, before_is, e) refl in
          λ i. record { kilograms = p i; count = counts_at i }

      -- so one more heading is written
      pub one_drawn : Drawn cut t u n before (set figures k (record { kilograms = held (held kg -ℤ held total.kilograms); count = get_or u.counts k 0 })) (held (z +ℤ held (get_or u.grams k (pos 0)))) (record { kilograms = held kg; count = total.count + get_or u.counts k 0 }) (k + 1)
      one_drawn = record {
        headed = drawn.headed;
        room = drawn.room;
        run = run_is;
        kilograms = kg_is;
        count = count_is;
        figures_are = ap (set figures k) figure_is ∙ ap (λ fs. set fs k (heading_figure cut (sums_of t) (k + 1))) drawn.figures_are ∙ figure_more (heading_figure cut (sums_of t)) k before (omega (arith, drawn.room));
      }

  module _ (all : k ≡ n) where
    size_is : k ≡ cut.size
    size_is = all ∙ sym drawn.headed.page.size_is_headings

    -- after the last heading, the total is that of the page
    total_is : total ≡ total_figure (sums_of t)
    total_is =
        let c = drawn.headed.page.cutting in
        let p = drawn.kilograms ∙ ap (λ j. whole_kilograms (running_sum cut (sums_of t) j)) size_is ∙ ap whole_kilograms (sum_all whole c.adds.grams c.lawful) in
        let q = drawn.count ∙ ap (λ j. (sums_of t).counts (up_to cut j)) size_is ∙ sum_all natural c.adds.counts c.lawful in
        λ i. record { kilograms = p i; count = q i }

    pub all_drawn : Writes cut (sums_of t) before (Ok total) figures
    unfolding page_figures
    all_drawn = record {
      answer = ((omega (arith, drawn.room, drawn.headed.page.size_is_headings), tt), total_is);
      places = drawn.figures_are ∙ ap (λ j. map (heading_figure cut (sums_of t)) (range_with_len 1 j) ++ drop j before) size_is;
    }

    pub total_adds : AddUp (page_figures cut (sums_of t)) total
    total_adds = subst (AddUp (page_figures cut (sums_of t))) (sym total_is) (adds_up drawn.headed.page.cutting)
