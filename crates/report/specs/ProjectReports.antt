-- The report of a project: the text of its sheet's calls.
use Rattle.std.specs.Prelude.{◌≡◌, ℕ, ◌<◌, List, [], ◌∷◌, ◌++◌, length, map, reverse, Ok, Result}
use Rattle.refusals.specs.declared.refusal.Refusal.{Refusal}
use Rattle.factors.specs.Layers.{project_map}
use Rattle.factors.specs.Maps.{FactorMap}
use Rattle.domain.specs.declared.building.BuildingNumbers.{BuildingNumbers}
use Rattle.feed.specs.Frames.{IsFramed, IsOneNote}
use Rattle.pages.specs.declared.figure.Figure.{Figure}
use Rattle.pages.specs.Cuts.{by_stage}
use Rattle.sheet.specs.PageAndGrade.{SendsThenDraws, send_events}
use Rattle.sheet.specs.Histories.{page_event, grade_event, History}
use Rattle.sheet.specs.Laws.{IsLawfulPage, IsLawfulGrade}
use Rattle.sheet.specs.States.{State, new_state}
use Rattle.report.specs.Calls.{history_text}
use Rattle.report.specs.ReportLines.{page_lines, grade_line}
use Rattle.report.specs.Projects.{ProjectParts}

-- the sends of bytes: each of their notes, and last the bytes that are left, if any, which begin with no note
pub data SplitsIntoSends : List ℕ → List (List ℕ) → Type 0 where
  ended : {bs : List ℕ} → bs ≡ [] → SplitsIntoSends bs []
  unframed : {bs : List ℕ} → 0 < length bs → (IsFramed bs → ⊥) → SplitsIntoSends bs (bs ∷ [])
  note : {bs : List ℕ} {more : List (List ℕ)} (n rest : List ℕ) → IsOneNote n → bs ≡ n ++ rest
      → SplitsIntoSends rest more → SplitsIntoSends bs (n ∷ more)

-- all of the bytes are sent into a sheet that was just opened: t is its state then, and this text is written. The
-- latest answers stand first
pub record SendsAll (b : BuildingNumbers) (factor_map : FactorMap) (bs : List ℕ) (t : State) (text : List ℕ)
    : Type 0 where
  pub sends : List (List ℕ)
  pub sent : SplitsIntoSends bs sends
  pub answered : List (List ℕ × Result (Unit {0}) Refusal)
  pub answers : map (λ a. a.0) answered ≡ reverse sends
  pub history : History b factor_map (send_events answered) t
  pub written : text ≡ history_text (send_events answered)

-- the same from the sheet s on, where it was just opened
abbrev pub SendsAllFrom : State → List ℕ → State → List ℕ → Type 0
SendsAllFrom s bs t text =
    (b : BuildingNumbers) (factor_map : FactorMap) → s ≡ new_state b factor_map → SendsAll b factor_map bs t text

-- the report of a project is the text of these calls: all is sent, then come a page by stage and the grade
pub record IsProjectReport (c : ProjectParts) (text : List ℕ) : Type 0 where
  pub sends : List (List ℕ)
  pub sent : SplitsIntoSends c.notes sends
  pub places : List Figure
  pub after : List Figure
  pub total : Figure
  pub grade : ℕ
  pub calls : SendsThenDraws c.building (project_map c.rows) sends by_stage places (Ok total) after grade
  pub written : text ≡ history_text
      (grade_event grade ∷ (page_event by_stage places (Ok total) after ∷ send_events calls.answered))

-- a report ends with a lawful page and a lawful grade; `IsProjectReport` says what comes before them
pub record EndsLawfully (c : ProjectParts) (text : List ℕ) : Type 0 where
  pub sends : List (List ℕ)
  pub sent : SplitsIntoSends c.notes sends
  pub before : List ℕ
  pub figures : List Figure
  pub total : Figure
  pub grade : ℕ
  pub written : text ≡ before ++ (page_lines figures total ++ grade_line grade)
  pub page : IsLawfulPage c.building.life (project_map c.rows) (reverse sends) by_stage figures total
  pub award : IsLawfulGrade c.building (project_map c.rows) (reverse sends) grade
