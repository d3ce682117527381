-- The text of a sheet's calls.
use Rattle.std.specs.Prelude.{◌≡◌, ℕ, ◌+◌, List, [], ◌∷◌, ◌++◌, length, take, Ok, Err, Result}
use Rattle.refusals.specs.declared.refusal.Refusal.{Refusal}
use Rattle.pages.specs.declared.figure.Figure.{Figure}
use Rattle.pages.specs.Cuts.{Assignment, by_stage}
use Rattle.sheet.specs.Histories.{Event, send_event, page_event, grade_event, DrawsPage, sent_bytes}
use Rattle.sheet.specs.States.{State, Sends}
use Rattle.report.specs.ReportLines.{denied_line, page_lines, grade_line}

-- the text of a send: none where it is accepted
abbrev pub send_text : ℕ → Result (Unit {0}) Refusal → List ℕ
send_text place (Ok u) = []
send_text place (Err f) = denied_line place f

-- the text of a page: its figures; none where it is refused, which the page of a report never is
abbrev pub page_text : Assignment → Result Figure Refusal → List Figure → List ℕ
page_text cut (Ok total) after = page_lines (take cut.size after) total
page_text cut (Err f) after = []

-- the text of calls, the latest first, written in their order. The place of a send is one more than the number of sends
-- before it, refused ones included
abbrev pub history_text : List Event → List ℕ
history_text [] = []
history_text (send_event bs r ∷ before) = history_text before ++ send_text (length (sent_bytes before) + 1) r
history_text (page_event cut places r after ∷ before) = history_text before ++ page_text cut r after
history_text (grade_event n ∷ before) = history_text before ++ grade_line n

-- sending bytes, at a place among the sends, changes the state from s to t and writes the text
pub record WritesSend (s : State) (place : ℕ) (bs : List ℕ) (t : State) (text : List ℕ) : Type 0 where
  pub answer : Result (Unit {0}) Refusal
  pub step : Sends s bs answer t
  pub written : text ≡ send_text place answer

-- a page by stage is drawn from the state s and written as the text
pub record WritesPage (s : State) (text : List ℕ) : Type 0 where
  pub places : List Figure
  pub after : List Figure
  pub total : Figure
  pub pages : DrawsPage s by_stage places (Ok total) after
  pub written : text ≡ page_text by_stage (Ok total) after
