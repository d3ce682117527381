use Rattle.std.proofs.Common.{subst}
use Rattle.pages.specs.Pages.{Writes}
use Rattle.sheet.specs.Histories.{DrawsPage, page}
use Rattle.sheet.specs.States.{state_of}
use Rattle.sheet.proofs.Lawful.{lawful}
use Rattle.sheet.proofs.sheet.Sheet.page.Goals as goal

pub returns : goal.returns
returns g c =
    let cut = g.C.Cut.assignment c.args.cut.now in
    let drawn : DrawsPage (state_of g.S.FactorSource.factor_map c.args.self.now) cut c.args.figures.now c.write_page.result c.write_page.new.figures = record {
      lawful = g.met.C.Cut.lawful c.args.cut.now;
      writes = subst (λ sums. Writes cut sums c.args.figures.now c.write_page.result c.write_page.new.figures) c.totals.ensures c.write_page.ensures.value;
    } in
    record { value = drawn; law = λ b factor_map before history. lawful b factor_map (page history drawn) }
