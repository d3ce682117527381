-- The history of a whole sheet: sends, a page and a grade.
use Rattle.std.specs.Prelude.{◌≡◌, ℕ, List, ◌∷◌, map, reverse, Result, IfOk, take}
use Rattle.refusals.specs.declared.refusal.Refusal.{Refusal}
use Rattle.factors.specs.Maps.{FactorMap}
use Rattle.domain.specs.declared.building.BuildingNumbers.{BuildingNumbers}
use Rattle.pages.specs.declared.figure.Figure.{Figure}
use Rattle.pages.specs.Cuts.{Assignment}
use Rattle.sheet.specs.Histories.{Event, send_event, page_event, grade_event, History}
use Rattle.sheet.specs.States.{State}
use Rattle.sheet.specs.Laws.{IsLawfulPage, IsLawfulGrade}

-- sends with their answers, as calls
abbrev pub send_events : List (List ℕ × Result (Unit {0}) Refusal) → List Event
send_events answered = map (λ a. send_event a.0 a.1) answered

-- the calls of one sheet over a building and a source's map, the latest first: these bytes are sent in this order, then
-- a page by the cut changes the places from `places` to `after`, then comes a grade
pub record SendsThenDraws (b : BuildingNumbers) (factor_map : FactorMap) (bytes : List (List ℕ)) (cut : Assignment)
    (places : List Figure) (answer : Result Figure Refusal) (after : List Figure) (grade : ℕ) : Type 0 where
  pub answered : List (List ℕ × Result (Unit {0}) Refusal)
  pub last : State
  pub sent : map (λ a. a.0) answered ≡ reverse bytes
  pub history : History b factor_map
      (grade_event grade ∷ (page_event cut places answer after ∷ send_events answered)) last

-- these calls were made, and the law says of their page, where it was not refused, and of their grade what it says
pub record IsPageAndGrade (b : BuildingNumbers) (factor_map : FactorMap) (bytes : List (List ℕ)) (cut : Assignment)
    (places : List Figure) (answer : Result Figure Refusal) (after : List Figure) (grade : ℕ) : Type 0 where
  pub calls : SendsThenDraws b factor_map bytes cut places answer after grade
  pub page : IfOk answer (λ total. IsLawfulPage b.life factor_map (reverse bytes) cut (take cut.size after) total)
  pub award : IsLawfulGrade b factor_map (reverse bytes) grade
