-- Pages: what is printed under the headings of a cut.
use Rattle.std.specs.Prelude.{◌≡◌, ℕ, ◌-◌, ◌≤◌, Bool, true, ◌&&◌, List, [], ◌∷◌, ◌++◌, length, take, drop, map, sum_by, ℤ, pos, ◌+ℤ◌, ◌-ℤ◌, ◌*ℤ◌, ◌<ℤ◌, Ok, Err, Result, nat_eq, nat_le, nat_lt}
use Rattle.std.specs.List.{range_with_len}
use Rattle.exact.specs.Rounding.{over, nearest_whole}
use Rattle.refusals.specs.declared.refusal.Refusal.{Refusal}
use Rattle.refusals.specs.declared.refusal.Refusal.TheVariants.{TooFewPlaces}
use Rattle.refusals.specs.Refusals.{refusal_number, Conditions, GivesOrRefuses}
use Rattle.totals.specs.Sums.{Sums}
use Rattle.pages.specs.declared.figure.Figure.{Figure}
use Rattle.pages.specs.Cuts.{Assignment}

-- grams, rounded to whole kilograms, a half going up
abbrev pub whole_kilograms : ℤ → ℤ
whole_kilograms grams = nearest_whole (over grams 1000)

-- the sums over any choice of headings
abbrev pub heading_sums : Assignment → Sums → Sums
heading_sums cut sums = record {
  grams = λ choice. sums.grams (λ row. choice (cut.heading row));
  counts = λ choice. sums.counts (λ row. choice (cut.heading row));
}

-- the grams under the headings 1 to k
abbrev pub running_sum : Assignment → Sums → ℕ → ℤ
running_sum cut sums k = (heading_sums cut sums).grams (λ h. nat_le h k)

-- the figure of the heading k: by how much the rounded running sum grows, and the number of its entries
abbrev pub heading_figure : Assignment → Sums → ℕ → Figure
heading_figure cut sums k = record {
  kilograms = whole_kilograms (running_sum cut sums k) -ℤ whole_kilograms (running_sum cut sums (k - 1));
  count = (heading_sums cut sums).counts (λ h. nat_eq h k);
}

-- the figures of all headings, in order
unfoldable pub page_figures : Assignment → Sums → List Figure
page_figures cut sums = map (heading_figure cut sums) (range_with_len 1 cut.size)

-- the figure of the total, over all rows
abbrev pub total_figure : Sums → Figure
total_figure sums = record { kilograms = whole_kilograms (sums.grams (λ row. true)); count = sums.counts (λ row. true) }

-- the conditions of a page: there is a place for each heading
abbrev pub room_conditions : Assignment → List Figure → Conditions
room_conditions cut before = (refusal_number TooFewPlaces, cut.size ≤ length before) ∷ []

-- the places after a page: a figure for each heading and the others unchanged, or, where it is refused, all unchanged
abbrev pub Leaves : Assignment → Sums → List Figure → Result Figure Refusal → List Figure → Type 0
Leaves cut sums before (Ok total) after = after ≡ page_figures cut sums ++ drop cut.size before
Leaves cut sums before (Err f) after = after ≡ before

-- writing a page returns r, and changes the places from `before` to `after`
pub record Writes (cut : Assignment) (sums : Sums) (before : List Figure) (r : Result Figure Refusal)
    (after : List Figure) : Type 0 where
  pub answer : GivesOrRefuses (room_conditions cut before) (λ total. total ≡ total_figure sums) r
  pub places : Leaves cut sums before r after

-- the sum of printed kilograms
abbrev pub printed_kilograms : List Figure → ℤ
printed_kilograms [] = pos 0
printed_kilograms (f ∷ fs) = f.kilograms +ℤ printed_kilograms fs

-- the headings after i and up to j
abbrev pub is_between : ℕ → ℕ → ℕ → Bool
is_between i j h = nat_lt i h && nat_le h j

-- the figures of these headings
abbrev pub figures_between : ℕ → ℕ → List Figure → List Figure
figures_between i j fs = take (j - i) (drop i fs)

-- the figures add exactly to the total, in kilograms and in counts
pub record AddUp (fs : List Figure) (total : Figure) : Type 0 where
  pub kilograms : printed_kilograms fs ≡ total.kilograms
  pub counts : sum_by (λ f. f.count) fs ≡ total.count

-- kg kilograms are less than a kilogram away from g grams
pub record IsNearGrams (kg g : ℤ) : Type 0 where
  pub least : g <ℤ (pos 1000 *ℤ kg +ℤ pos 1000)
  pub most : (pos 1000 *ℤ kg) <ℤ (g +ℤ pos 1000)

-- any neighbouring headings: their kilograms as printed are near the grams under them
abbrev pub NeighboursAreNear : Assignment → Sums → Type 0
NeighboursAreNear cut sums =
    (i j : ℕ) → i ≤ j → j ≤ cut.size
    → IsNearGrams (printed_kilograms (figures_between i j (page_figures cut sums)))
    ((heading_sums cut sums).grams (is_between i j))
