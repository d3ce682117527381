use Rattle.std.proofs.Common.{rules, arith}
use Rattle.pages.proofs.HeadingLoop.{none_yet, heading_at, sum_fits, one_row, all_rows}
use Rattle.pages.proofs.headings.totals_by_heading.Goals as goal

pub loop-at-init : goal.loop-at-init
loop-at-init g c = none_yet (search rules) (search rules)

pub overflow_add-grams : goal.overflow_add-grams
overflow_add-grams g c = sum_fits c.loop-at.invariant (heading_at (g.met.C.Cut.lawful c.args.cut.now) (omega arith) c.heading-heading.ensures)

pub loop-at-preserved : goal.loop-at-preserved
loop-at-preserved g c = one_row c.loop-at.invariant (heading_at (g.met.C.Cut.lawful c.args.cut.now) (omega arith) c.heading-heading.ensures)

pub returns : goal.returns
returns g c = all_rows c.loop-at.invariant (omega arith)
