-- The figures of a page add up to its total, by any rounding that leaves nothing as nothing.
use Rattle.std.proofs.Common.{◌≡◌, ℕ, zero, suc, ◌+◌, ◌-◌, ◌≤◌, drop, map, sum_by, subst, pos, ◌-ℤ◌, nat_eq, refl, sym, ap, ◌∙◌, arith}
use Rattle.std.specs.List.{range_with_len}
use Rattle.std.proofs.lemmas.Int.{ints}
use Rattle.std.proofs.lemmas.List.{drop-map}
use Rattle.std.proofs.lemmas.List.FromFn.{sum_by-map-range_with_len_more, take-map-range_with_len}
use Rattle.exact.proofs.Nearness.{stays}
use Rattle.totals.specs.Sums.{Sums}
use Rattle.totals.proofs.Adding.{whole, natural}
use Rattle.pages.specs.Cuts.{Assignment}
use Rattle.pages.specs.Pages.{whole_kilograms, heading_sums, running_sum, heading_figure, page_figures, total_figure, printed_kilograms, figures_between, AddUp}
use Rattle.pages.proofs.Parts.{Cutting, up_to, sum_more, sum_none, sum_all}

-- a range without its first numbers
range_after : (a n i : ℕ) → drop i (range_with_len a n) ≡ range_with_len (a + i) (n - i)
range_after a n zero =
    let e : a + 0 ≡ a = omega arith in
    let f : n - 0 ≡ n = omega arith in
    rw (e, f) refl
range_after a zero (suc i) = let f : 0 - suc i ≡ 0 = omega arith in rw f refl
range_after a (suc n) (suc i) =
    let e : a + suc i ≡ a + 1 + i = omega arith in
    let f : suc n - suc i ≡ n - i = omega arith in
    rw (e, f) (range_after (a + 1) n i)

-- no grams are no kilograms
pub nothing_stays : whole_kilograms (pos 0) ≡ pos 0
nothing_stays = stays (pos 0) 1000 (omega arith)

module _ (cut : Assignment) (sums : Sums) where
  -- everything between the two ends cancels
  telescope : (i n : ℕ) → printed_kilograms (map (heading_figure cut sums) (range_with_len (i + 1) n)) ≡ whole_kilograms (running_sum cut sums (i + n)) -ℤ whole_kilograms (running_sum cut sums i)
  telescope i zero =
      let e : i + 0 ≡ i = omega arith in
      rw e (omega (arith, ints))
  telescope i (suc n) =
      let e : i + suc n ≡ i + 1 + n = omega arith in
      let f : i + 1 - 1 ≡ i = omega arith in
      rw (e, f) (omega (arith, ints, telescope (i + 1) n))

  -- the kilograms that the headings after i and up to j print
  pub printed_between : (i j : ℕ) → i ≤ j → j ≤ cut.size → printed_kilograms (figures_between i j (page_figures cut sums)) ≡ whole_kilograms (running_sum cut sums j) -ℤ whole_kilograms (running_sum cut sums i)
  unfolding page_figures
  printed_between i j l m =
      let f = heading_figure cut sums in
      let e : 1 + i ≡ i + 1 = omega arith in
      let reach : i + (j - i) ≡ j = omega arith in
      rw (drop-map f i (range_with_len 1 cut.size), range_after 1 cut.size i, take-map-range_with_len f (1 + i) (cut.size - i) (j - i) (omega arith), e) (rw reach at (telescope i (j - i)))

module _ {cut : Assignment} {sums : Sums} (c : Cutting cut sums) where
  -- the counts of the first headings sum to what is counted under them
  counted : (n : ℕ) → sum_by (λ f. f.count) (map (heading_figure cut sums) (range_with_len 1 n)) ≡ sums.counts (up_to cut n)
  counted zero = sym (sum_none natural c.adds.counts c.lawful)
  counted (suc n) =
      let e : n + 1 ≡ suc n = omega arith in
      subst (λ m. sum_by (λ f. f.count) (map (heading_figure cut sums) (range_with_len 1 m)) ≡ sums.counts (up_to cut m)) e
      (sum_by-map-range_with_len_more (λ f. f.count) (heading_figure cut sums) 1 n (n + 1) (omega arith) ∙ ap (λ z. z + (heading_sums cut sums).counts (λ h. nat_eq h (n + 1))) (counted n) ∙ sym (sum_more natural c.adds.counts c.lawful n))

  -- so the figures add up to the total
  pub adds_up : AddUp (page_figures cut sums) (total_figure sums)
  unfolding page_figures
  adds_up =
      let size : 0 + cut.size ≡ cut.size = omega arith in
      let none = sum_none whole c.adds.grams c.lawful in
      let all = sum_all whole c.adds.grams c.lawful in
      record {
        kilograms = telescope cut sums 0 cut.size ∙ rw (size, none, all, nothing_stays) (omega (arith, ints));
        counts = counted cut.size ∙ sum_all natural c.adds.counts c.lawful;
      }
