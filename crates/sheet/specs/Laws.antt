-- The law: what holds of every page that is not refused, and of every grade, for any sends in any order.
use Rattle.std.specs.Prelude.{◌≡◌, ℕ, ◌+◌, ◌≤◌, List, [], ◌∷◌, ◌++◌, take, ℤ, pos, ◌+ℤ◌, ◌*ℤ◌, ◌<ℤ◌, Ok, Err}
use Rattle.exact.specs.Rounding.{Fraction}
use Rattle.factors.specs.Maps.{FactorMap}
use Rattle.domain.specs.declared.building.BuildingNumbers.{BuildingNumbers}
use Rattle.domain.specs.declared.entry.Entry.{Entry}
use Rattle.grades.specs.Grades.{energy_emissions, IsAwarded}
use Rattle.pages.specs.declared.figure.Figure.{Figure}
use Rattle.pages.specs.Cuts.{Assignment}
use Rattle.pages.specs.Pages.{heading_sums, page_figures, total_figure, printed_kilograms, figures_between, is_between, AddUp}
use Rattle.sheet.specs.Histories.{Event, send_event, page_event, grade_event, sent_bytes, History}
use Rattle.sheet.specs.LineSums.{booked_sums, exact_sum_in}
use Rattle.sheet.specs.Rolls.{AreCounted}
use Rattle.sheet.specs.States.{State}

-- kg kilograms are less than 1,000 + n / 2 grams away from the exact grams x
pub record IsNear (kg : ℤ) (n : ℕ) (x : Fraction) : Type 0 where
  pub least : (pos 2 *ℤ x.numerator) <ℤ ((pos 2000 *ℤ kg +ℤ pos (2000 + n)) *ℤ pos x.divisor)
  pub most : (pos 2000 *ℤ kg *ℤ pos x.divisor) <ℤ (pos 2 *ℤ x.numerator +ℤ pos (2000 + n) *ℤ pos x.divisor)

-- a lawful page by a cut: its figures, one for each heading, and its total, after these sends (the latest first), in a
-- building with a life of y years, at the factors of a map
pub record IsLawfulPage (y : ℕ) (factor_map : FactorMap) (bytes : List (List ℕ)) (cut : Assignment)
    (figures : List Figure) (total : Figure) : Type 0 where
  -- the highest revisions count, and nothing else: the figures are those of the entries that are counted
  pub entries : List Entry
  pub counts : AreCounted y factor_map bytes entries
  pub headings : figures ≡ page_figures cut (booked_sums y factor_map entries)
  pub totals : total ≡ total_figure (booked_sums y factor_map entries)
  -- any neighbouring headings are near the exact sum of the entries under them, which is of booked thousandths
  pub near : (i j : ℕ) → i ≤ j → j ≤ cut.size
      → IsNear (printed_kilograms (figures_between i j figures))
      ((heading_sums cut (booked_sums y factor_map entries)).counts (is_between i j))
      (exact_sum_in y factor_map (λ row. is_between i j (cut.heading row)) entries)
  -- the headings add to the total
  pub adds : AddUp figures total

-- no send among these calls was accepted
abbrev pub NoneAccepted : List Event → Type 0
NoneAccepted [] = Unit {0}
NoneAccepted (send_event bs (Ok u) ∷ calls) = ⊥
NoneAccepted (send_event bs (Err f) ∷ calls) = NoneAccepted calls
NoneAccepted (page_event cut places r after ∷ calls) = NoneAccepted calls
NoneAccepted (grade_event n ∷ calls) = NoneAccepted calls

-- a lawful grade after these sends, the latest first: that of the entries that are counted, by their booked grams
pub record IsLawfulGrade (b : BuildingNumbers) (factor_map : FactorMap) (bytes : List (List ℕ)) (grade : ℕ)
    : Type 0 where
  pub entries : List Entry
  pub counts : AreCounted b.life factor_map bytes entries
  pub awarded : IsAwarded b (energy_emissions (booked_sums b.life factor_map entries)) grade

-- the law over the calls of one sheet, the latest first
pub record IsLawful (b : BuildingNumbers) (factor_map : FactorMap) (history : List Event) : Type 0 where
  -- every page that is not refused is lawful
  pub pages : (later before : List Event) (cut : Assignment) (total : Figure) (places after : List Figure)
      → history ≡ later ++ (page_event cut places (Ok total) after ∷ before)
      → IsLawfulPage b.life factor_map (sent_bytes before) cut (take cut.size after) total
  -- pages with no accepted send between them have the same total, by any cuts
  pub steady : (later middle before : List Event) (cut cut' : Assignment) (total total' : Figure)
      (places after places' after' : List Figure) → history ≡ later
      ++ (page_event cut places (Ok total) after ∷ middle ++ (page_event cut' places' (Ok total') after' ∷ before))
      → NoneAccepted middle → total ≡ total'
  -- every grade is lawful
  pub grades : (later before : List Event) (grade : ℕ) → history ≡ later ++ (grade_event grade ∷ before)
      → IsLawfulGrade b factor_map (sent_bytes before) grade

-- with any calls that led to the sheet s, the call e after them keeps the law
abbrev pub KeepsLaw : State → Event → Type 0
KeepsLaw s e =
    (b : BuildingNumbers) (factor_map : FactorMap) (before : List Event) → History b factor_map before s
    → IsLawful b factor_map (e ∷ before)
