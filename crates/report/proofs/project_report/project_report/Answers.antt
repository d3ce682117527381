use Rattle.domain.specs.Buildings.{numbers_of}
use Rattle.factors.specs.Layers.{project_map}
use Rattle.report.specs.Projects.{parts_of_project}
use Rattle.report.proofs.ProjectTexts.{written}
use Rattle.report.proofs.project_report.project_report.Goals as goal

pub returns : goal.returns
returns c =
    let project = c.args.project.now in
    let rows = c.as_slice.result.now in
    let sent = c.in_ok-text.ensures (numbers_of project.building) (project_map rows) c.open-sheet.ensures in
    written (parts_of_project project) rows c.as_slice.ensures.value sent c.in_ok-append_stage_page.ensures c.grade.ensures.value c.in_ok-write.ensures.bytes
