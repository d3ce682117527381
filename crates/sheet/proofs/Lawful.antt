-- The law over every history of a sheet.
use Rattle.std.proofs.Common.{◌≡◌, ℕ, ◌+◌, ◌*◌, List, [], ◌∷◌, ◌++◌, take, Ok, Err, ℤ, pos, ◌+ℤ◌, ◌*ℤ◌, ◌≤ℤ◌, sym, ap, ◌∙◌, subst, arith}
use Rattle.std.proofs.lemmas.Int.{ints}
use Rattle.std.specs.List.{AllByRecursion}
use Rattle.exact.specs.Rounding.{Fraction}
use Rattle.exact.proofs.Products.{scale_le, apart, doubled}
use Rattle.factors.specs.Maps.{FactorMap}
use Rattle.domain.specs.declared.building.BuildingNumbers.{BuildingNumbers}
use Rattle.domain.specs.declared.entry.Entry.{Entry}
use Rattle.grades.specs.Grades.{energy_emissions, IsAwarded}
use Rattle.pages.specs.declared.figure.Figure.{Figure}
use Rattle.pages.specs.Cuts.{Assignment}
use Rattle.pages.specs.Pages.{Writes, total_figure, is_between, IsNearGrams}
use Rattle.pages.proofs.Nearby.{near_between}
use Rattle.pages.proofs.Parts.{Cutting}
use Rattle.pages.proofs.WrittenPlaces.{shown}
use Rattle.pages.proofs.Telescope.{adds_up}
use Rattle.sheet.specs.Histories.{DrawsPage, GivesGrade, Event, send_event, page_event, grade_event, History, new, send, page, grade, sent_bytes}
use Rattle.sheet.specs.Laws.{IsNear, IsLawfulPage, IsLawfulGrade, NoneAccepted, IsLawful}
use Rattle.sheet.specs.LineSums.{held_lines, sums_of_lines, booked_sums}
use Rattle.sheet.specs.Rolls.{entries_of, AreCounted}
use Rattle.sheet.specs.States.{State}
use Rattle.sheet.proofs.Deciders.{decide}
use Rattle.sheet.proofs.ExactSums.{Fit, Away, away_sum, sums_add, lines_taken, entries_kept}
use Rattle.sheet.proofs.RollSteps.{roll_counts}
use Rattle.sheet.proofs.HeldPlaces.{Standing, nothing_sent, sent_once}

-- kilograms near the booked grams, which are at most n halves away from the exact ones, are near these
near_exact : {kg g : ℤ} {n : ℕ} {x : Fraction} → IsNearGrams kg g → Away n g x → IsNear kg n x
near_exact {kg} {g} {n} {x} near away =
    let d = x.divisor in
    let k = pos 2000 *ℤ kg in
    let twice = doubled g d in
    let up : (pos 2 *ℤ g +ℤ pos 2) ≤ℤ (k +ℤ pos 2000) = omega (arith, ints, near.least) in
    let down : (k +ℤ pos 2) ≤ℤ (pos 2 *ℤ g +ℤ pos 2000) = omega (arith, ints, near.most) in
    let sum : (2000 + n) * d ≡ 2000 * d + n * d = omega arith in
    record {
      least = omega (arith, ints, away.within.most, scale_le d up, apart (pos 2 *ℤ g) (pos 2) d, apart k (pos 2000) d, apart k (pos (2000 + n)) d);
      most = omega (arith, ints, away.within.least, scale_le d down, apart k (pos 2) d, apart (pos 2 *ℤ g) (pos 2000) d);
    }

module _ (b : BuildingNumbers) (factor_map : FactorMap) where
  -- the state of a sheet after its calls
  standing : {calls : List Event} {s : State} → History b factor_map calls s → Standing b factor_map (sent_bytes calls) s
  standing new = nothing_sent b factor_map
  standing (send before step) = sent_once b factor_map (standing before) step
  standing (page before step) = standing before
  standing (grade before step) = standing before

  -- some sheet has had these calls
  record Had (calls : List Event) : Type 0 where
    state : State
    history : History b factor_map calls state

  -- a history, up to an earlier call
  up_to : (later calls : List Event) {s : State} → History b factor_map (later ++ calls) s → Had calls
  up_to [] calls {s} r = record { state = s; history = r }
  up_to (e ∷ later) calls (send before step) = up_to later calls before
  up_to (e ∷ later) calls (page before step) = up_to later calls before
  up_to (e ∷ later) calls (grade before step) = up_to later calls before

  -- calls that accept no send leave the state as it was
  unchanged : (later calls : List Event) {s : State} → NoneAccepted later → History b factor_map (later ++ calls) s → History b factor_map calls s
  unchanged [] calls none r = r
  unchanged (send_event bs (Ok u) ∷ later) calls none r = absurd none
  unchanged (send_event bs (Err f) ∷ later) calls none (send before step) = subst (History b factor_map calls) (sym step.refused) (unchanged later calls none before)
  unchanged (page_event cut places r after ∷ later) calls none (page before step) = unchanged later calls none before
  unchanged (grade_event n ∷ later) calls none (grade before step) = unchanged later calls none before

  -- ---- one page, and one grade

  module _ {s : State} {bytes : List (List ℕ)} (st : Standing b factor_map bytes s) where
    abbrev entries : List Entry
    entries = entries_of (decide st.roll)

    counts : AreCounted b.life factor_map bytes entries
    counts = roll_counts st.is_roll

    kept : AllByRecursion (Fit b.life factor_map) entries
    kept = entries_kept b.life factor_map (decide st.roll) st.sound

    sums_are : sums_of_lines (held_lines s.places) ≡ booked_sums b.life factor_map entries
    sums_are = ap (λ t. sums_of_lines (held_lines t.places)) st.holds ∙ ap sums_of_lines (lines_taken b.life factor_map (decide st.roll) st.sound)

    drawn : {cut : Assignment} {before after : List Figure} {total : Figure} → DrawsPage s cut before (Ok total) after → IsLawfulPage b.life factor_map bytes cut (take cut.size after) total
    drawn {cut} {before} {after} {total} p =
        let sums = booked_sums b.life factor_map entries in
        let cutting : Cutting cut sums = record { lawful = p.lawful; adds = sums_add b.life factor_map entries kept } in
        let w = subst (λ x. Writes cut x before (Ok total) after) sums_are p.writes in
        let figures = shown w in
        record {
          entries = entries;
          counts = counts;
          headings = figures;
          totals = w.answer.1;
          near = λ i j l m. near_exact (rw figures (near_between cutting i j l m)) (away_sum b.life factor_map (λ row. is_between i j (cut.heading row)) entries kept);
          adds = rw (figures, w.answer.1) (adds_up cutting);
        }

    awarded : {n : ℕ} → GivesGrade s n → IsLawfulGrade b factor_map bytes n
    awarded {n} g =
        let by_entries : IsAwarded s.building (energy_emissions (booked_sums b.life factor_map entries)) n = subst (λ x. IsAwarded s.building (energy_emissions x) n) sums_are g in
        record { entries = entries; counts = counts; awarded = subst (λ t. IsAwarded t.building (energy_emissions (booked_sums b.life factor_map entries)) n) st.holds by_entries }

  last_page : {before : List Event} {s : State} {cut : Assignment} {places after : List Figure} {total : Figure} → History b factor_map (page_event cut places (Ok total) after ∷ before) s → IsLawfulPage b.life factor_map (sent_bytes before) cut (take cut.size after) total
  last_page (page before step) = drawn (standing before) step

  last_total : {before : List Event} {s : State} {cut : Assignment} {places after : List Figure} {total : Figure} → History b factor_map (page_event cut places (Ok total) after ∷ before) s → total ≡ total_figure (sums_of_lines (held_lines s.places))
  last_total (page before step) = step.writes.answer.1

  last_grade : {before : List Event} {s : State} {n : ℕ} → History b factor_map (grade_event n ∷ before) s → IsLawfulGrade b factor_map (sent_bytes before) n
  last_grade (grade before step) = awarded (standing before) step

  -- ---- all of them

  pub lawful : {calls : List Event} {s : State} → History b factor_map calls s → IsLawful b factor_map calls
  lawful {s = s} r =
      record {
        pages = λ later before cut total places after is.
            last_page (up_to later (page_event cut places (Ok total) after ∷ before) (subst (λ x. History b factor_map x s) is r)).history;
        steady = λ later middle before cut cut' total total' places after places' after' is none.
            let earlier = page_event cut' places' (Ok total') after' ∷ before in
            let h = up_to later (page_event cut places (Ok total) after ∷ middle ++ earlier) (subst (λ x. History b factor_map x s) is r) in
            last_total h.history ∙ sym (last_total (unchanged (page_event cut places (Ok total) after ∷ middle) earlier none h.history));
        grades = λ later before n is. last_grade (up_to later (grade_event n ∷ before) (subst (λ x. History b factor_map x s) is r)).history;
      }
