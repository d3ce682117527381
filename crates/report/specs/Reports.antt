-- Reports of feeds.
use Rattle.std.specs.Prelude.{◌≡◌, ℕ, List, Ok, Err}
use Rattle.refusals.specs.declared.refusal.Refusal.{Refusal}
use Rattle.report.specs.ProjectReports.{IsProjectReport, EndsLawfully}
use Rattle.report.specs.ReportLines.{denied_line}
use Rattle.report.specs.Projects.{ProjectParts, GivesProject}
use Rattle.feed.specs.Writing.{IsOnlyText}

-- text is the report of a feed: the refusal before anything is sent, and nothing more, or the report of its project
pub data IsReportText (feed text : List ℕ) : Type 0 where
  denied : {f : Refusal} → GivesProject feed (Err f) → text ≡ denied_line 0 f → IsReportText feed text
  of_project : {c : ProjectParts} → GivesProject feed (Ok c) → IsProjectReport c text → IsReportText feed text

-- where a feed is not refused before anything is sent, its report ends with a lawful page and a lawful grade
abbrev pub IsLawfulReport : List ℕ → List ℕ → Type 0
IsLawfulReport feed text = (c : ProjectParts) → GivesProject feed (Ok c) → EndsLawfully c text

-- text is the report of a feed, no other text is, and it is lawful
pub record IsReport (feed text : List ℕ) : Type 0 where
  pub reports : IsReportText feed text
  pub only : IsOnlyText (IsReportText feed) text
  pub law : IsLawfulReport feed text
