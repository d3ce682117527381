-- Histories: the calls of one sheet, from its opening on, with their answers.
use Rattle.std.specs.Prelude.{ℕ, List, [], ◌∷◌, Result}
use Rattle.refusals.specs.declared.refusal.Refusal.{Refusal}
use Rattle.factors.specs.Maps.{FactorMap}
use Rattle.domain.specs.declared.building.BuildingNumbers.{BuildingNumbers}
use Rattle.grades.specs.Grades.{energy_emissions, IsAwarded}
use Rattle.pages.specs.declared.figure.Figure.{Figure}
use Rattle.pages.specs.Cuts.{Assignment, IsCut}
use Rattle.pages.specs.Pages.{Writes}
use Rattle.sheet.specs.LineSums.{held_lines, sums_of_lines}
use Rattle.sheet.specs.States.{State, new_state, Sends}

-- a page by a cut is drawn from the sheet s: it returns r, and changes the places from `before` to `after`
pub record DrawsPage (s : State) (cut : Assignment) (before : List Figure) (r : Result Figure Refusal)
    (after : List Figure) : Type 0 where
  pub lawful : IsCut cut
  pub writes : Writes cut (sums_of_lines (held_lines s.places)) before r after

-- the sheet s gives the grade with this number
abbrev pub GivesGrade : State → ℕ → Type 0
GivesGrade s grade = IsAwarded s.building (energy_emissions (sums_of_lines (held_lines s.places))) grade

-- a call with its answer; for a page also its cut, and the places before and after it
pub data Event : Type 0 where
  send_event : (bytes : List ℕ) (answer : Result (Unit {0}) Refusal) → Event
  page_event : (cut : Assignment) (places : List Figure) (answer : Result Figure Refusal) (after : List Figure) → Event
  grade_event : (grade : ℕ) → Event

-- the calls, the latest first, of a sheet that was opened over a building and a source's map, and the state after them
pub data History (b : BuildingNumbers) (factor_map : FactorMap) : List Event → State → Type 0 where
  new : History b factor_map [] (new_state b factor_map)
  send : {before : List Event} {s t : State} {bs : List ℕ} {r : Result (Unit {0}) Refusal}
      → History b factor_map before s → Sends s bs r t → History b factor_map (send_event bs r ∷ before) t
  page : {before : List Event} {s : State} {cut : Assignment} {places after : List Figure} {r : Result Figure Refusal}
      → History b factor_map before s → DrawsPage s cut places r after
      → History b factor_map (page_event cut places r after ∷ before) s
  grade : {before : List Event} {s : State} {n : ℕ} → History b factor_map before s → GivesGrade s n
      → History b factor_map (grade_event n ∷ before) s

-- the bytes that were sent, refused or not, the latest first
abbrev pub sent_bytes : List Event → List (List ℕ)
sent_bytes [] = []
sent_bytes (send_event bs r ∷ before) = bs ∷ sent_bytes before
sent_bytes (page_event cut places r after ∷ before) = sent_bytes before
sent_bytes (grade_event n ∷ before) = sent_bytes before
