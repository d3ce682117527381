use Rattle.std.proofs.Common.{Err, string_bytes}
use Rattle.std.proofs.lemmas.Result.{IfOk-weaker}
use Rattle.report.specs.Reports.{IsReportText, denied, of_project}
use Rattle.report.specs.Projects.{GivesProject}
use Rattle.report.proofs.OneReport.{only_report, lawful_report}
use Rattle.report.proofs.feed_report.report.Goals as goal

pub returns-in-Ok : goal.returns-in-Ok
returns-in-Ok c =
    let feed = c.args.feed.now in
    let value = IfOk-weaker c.project_report.result _ (λ s. IsReportText feed (string_bytes s)) (λ s a. of_project c.in-Ok.ensures a) c.project_report.ensures in
    record { value = value; only = only_report feed c.project_report.result value; law = lawful_report feed c.project_report.result value }

pub returns-in-Err-Refused : goal.returns-in-Err-Refused
returns-in-Err-Refused c =
    let feed = c.args.feed.now in
    let opens : GivesProject feed (Err c.in-Err-Refused.refusal) = rw c.in-Err-Refused.field-0-is at c.in-Err-Refused.ensures in
    let value = IfOk-weaker c.format.result _ (λ s. IsReportText feed (string_bytes s)) (λ s is. denied opens is) c.format.ensures.ok in
    record { value = value; only = only_report feed c.format.result value; law = lawful_report feed c.format.result value }
