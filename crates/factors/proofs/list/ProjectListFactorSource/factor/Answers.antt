use Rattle.std.proofs.Common.{sym, ap, ◌∙◌}
use Rattle.std.specs.Option.{option_map}
use Rattle.domain.specs.Factors.{factor_numbers}
use Rattle.factors.proofs.ListRows.{passed}
use Rattle.factors.proofs.list.ProjectListFactorSource.factor.Goals as goal

pub loop-row-preserved : goal.loop-row-preserved
loop-row-preserved c =
    let none = sym c.factor_of.ensures ∙ ap (option_map factor_numbers) c.in_default.is in
    passed c.args.self.now.rows.now c.loop-row.row-index c.args.code _ c.loop-row-test.true none ∙ c.loop-row.invariant
