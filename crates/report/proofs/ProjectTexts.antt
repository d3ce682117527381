-- The report of a project, from the texts of its calls.
use Rattle.std.proofs.Common.{◌≡◌, ℕ, List, [], ◌∷◌, ◌++◌, take, reverse, Ok, refl, ◌∙◌, subst, append_assoc, length, Result, ap, sym, arith}
use Rattle.std.proofs.lemmas.List.{take_all}
use Rattle.refusals.specs.declared.refusal.Refusal.{Refusal}
use Rattle.factors.specs.Layers.{project_map}
use Rattle.domain.specs.declared.factor.FactorRow.{FactorRow}
use Rattle.feed.specs.Writing.{GrowsByText}
use Rattle.pages.specs.declared.figure.Figure.{Figure}
use Rattle.pages.specs.Cuts.{by_stage}
use Rattle.sheet.specs.PageAndGrade.{send_events}
use Rattle.sheet.specs.Histories.{DrawsPage, GivesGrade, page_event, grade_event, page, grade}
use Rattle.sheet.specs.Laws.{IsLawfulPage, IsLawfulGrade}
use Rattle.sheet.specs.States.{State}
use Rattle.sheet.proofs.WholeHistories.{bytes_are}
use Rattle.sheet.proofs.Lawful.{lawful}
use Rattle.report.specs.ProjectReports.{SendsAll, IsProjectReport, EndsLawfully}
use Rattle.report.specs.Calls.{history_text, WritesPage}
use Rattle.report.specs.ReportLines.{page_lines, grade_line}
use Rattle.report.specs.Projects.{ProjectParts}

-- a page by stage is written after a text
pub page_grown : {s : State} {places after : List Figure} {r : Result Figure Refusal} {total : Figure} {before longer : List ℕ} → DrawsPage s by_stage places r after → r ≡ Ok total → length after ≡ by_stage.size → longer ≡ before ++ page_lines after total → GrowsByText (WritesPage s) before longer
page_grown {s} {places} {after} {total = total} {before = before} pages is whole grown = record {
  text = page_lines after total;
  says = record {
    places = places;
    after = after;
    total = total;
    pages = subst (λ r. DrawsPage s by_stage places r after) is pages;
    written = ap (λ fs. page_lines fs total) (sym (take_all by_stage.size after (omega (arith, whole))));
  };
  appended = grown;
}

-- all is sent, then come a page and the grade, each written after the other
pub written : (c : ProjectParts) (rows : List FactorRow) {s : State} {refused with_page text : List ℕ} {n : ℕ} → rows ≡ c.rows → SendsAll c.building (project_map rows) c.notes s refused → GrowsByText (WritesPage s) refused with_page → GivesGrade s n → text ≡ with_page ++ grade_line n → IsProjectReport c text
written c rows {s} {refused} {n = n} same sent grows grade_of grade_put =
    let page_of = grows.says in
    let all = subst (λ (xs : List FactorRow). SendsAll c.building (project_map xs) c.notes s refused) same sent in
    record {
      sends = all.sends;
      sent = all.sent;
      places = page_of.places;
      after = page_of.after;
      total = page_of.total;
      grade = n;
      calls = record { answered = all.answered; last = s; sent = all.answers; history = grade (page all.history page_of.pages) grade_of };
      written = grade_put ∙ (λ i. (grows.appended ∙ (λ j. all.written j ++ page_of.written j)) i ++ grade_line n);
    }

-- a project's report ends with a lawful page and a lawful grade
pub concludes : (c : ProjectParts) (text : List ℕ) → IsProjectReport c text → EndsLawfully c text
concludes c text a =
    let factor_map = project_map c.rows in
    let calls = send_events a.calls.answered in
    let page_call = page_event by_stage a.places (Ok a.total) a.after in
    let law = lawful c.building factor_map a.calls.history in
    let bytes = bytes_are a.calls.answered (reverse a.sends) a.calls.sent in
    record {
      sends = a.sends;
      sent = a.sent;
      before = history_text calls;
      figures = take by_stage.size a.after;
      total = a.total;
      grade = a.grade;
      written = a.written ∙ append_assoc (history_text calls) (page_lines (take by_stage.size a.after) a.total) (grade_line a.grade);
      page = subst (λ bs. IsLawfulPage c.building.life factor_map bs by_stage (take by_stage.size a.after) a.total) bytes (law.pages (grade_event a.grade ∷ []) calls by_stage a.total a.places a.after refl);
      award = subst (λ bs. IsLawfulGrade c.building factor_map bs a.grade) bytes (law.grades [] (page_call ∷ calls) a.grade refl);
    }
