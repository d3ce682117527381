use Rattle.std.proofs.Common.{rules}
use Rattle.std.proofs.lemmas.Result.{on_ok_weaker}
use Rattle.report.proofs.ProjectTexts.{page_grown}
use Rattle.report.proofs.project_report.append_stage_page.Goals as goal

pub returns : goal.returns
returns g c = on_ok_weaker c.write.result (λ grown. page_grown c.page.ensures.value c.unwrap-total.ensures (search rules) grown) c.write.ensures.bytes
