-- What any neighbouring headings print is near the sum of their grams.
use Rattle.std.proofs.Common.{◌≡◌, ℕ, ◌≤◌, ℤ, pos, ◌+ℤ◌, ◌-ℤ◌, ◌*ℤ◌, ◌<ℤ◌, ◌≤ℤ◌, arith}
use Rattle.std.proofs.lemmas.Int.{ints}
use Rattle.exact.proofs.Nearness.{is_nearest, below}
use Rattle.exact.specs.Rounding.{over}
use Rattle.totals.specs.Sums.{Sums}
use Rattle.totals.proofs.Adding.{whole}
use Rattle.pages.specs.Cuts.{Assignment}
use Rattle.pages.specs.Pages.{whole_kilograms, heading_sums, running_sum, page_figures, printed_kilograms, figures_between, is_between, IsNearGrams}
use Rattle.pages.proofs.Parts.{Cutting, sum_between}
use Rattle.pages.proofs.Telescope.{printed_between}

-- rounded grams: at most half a kilogram above, and less than half a kilogram below
pub record Rounded (kg g : ℤ) : Type 0 where
  pub least : g <ℤ (pos 1000 *ℤ kg +ℤ pos 500)
  pub most : (pos 1000 *ℤ kg) ≤ℤ (g +ℤ pos 500)

-- printed kilograms are rounded so
pub is_rounded : (g : ℤ) → Rounded (whole_kilograms g) g
is_rounded g =
    let n = is_nearest (over g 1000) (omega arith) in
    let b = below n in
    record { least = omega (arith, ints); most = omega (arith, ints, n.near.least) }

-- the difference of two rounded sums is near the difference of the sums
near : {p q g h d : ℤ} → Rounded p g → Rounded q h → g ≡ h +ℤ d → IsNearGrams (p -ℤ q) d
near a b e = record { least = omega (arith, ints, a.least, a.most, b.least, b.most); most = omega (arith, ints, a.least, a.most, b.least, b.most) }

-- so any neighbouring headings are near their grams
pub near_between : {cut : Assignment} {sums : Sums} → Cutting cut sums → (i j : ℕ) → i ≤ j → j ≤ cut.size → IsNearGrams (printed_kilograms (figures_between i j (page_figures cut sums))) ((heading_sums cut sums).grams (is_between i j))
near_between {cut} {sums} c i j l m =
    rw (printed_between cut sums i j l m) (near (is_rounded (running_sum cut sums j)) (is_rounded (running_sum cut sums i)) (sum_between whole c.adds.grams c.lawful i j l))
