use Rattle.std.proofs.Common.{rules, arith}
use Rattle.pages.proofs.PageLoop.{page, near_page, none_drawn, sum_fits, count_fits, rest_fits, one_drawn, all_drawn, total_adds}
use Rattle.pages.proofs.page.write_page.Goals as goal

pub returns-then-figures-HEADINGS-clause-near : goal.returns-then-figures-HEADINGS-clause-near
returns-then-figures-HEADINGS-clause-near g c = near_page (page c.args.totals (g.met.C.Cut.lawful c.args.cut.now) (g.met.C.Cut.size_is_headings c.args.cut.now) (search rules) (search rules))

pub loop-k-init : goal.loop-k-init
loop-k-init g c = none_drawn (record {
  page = page c.args.totals (g.met.C.Cut.lawful c.args.cut.now) (g.met.C.Cut.size_is_headings c.args.cut.now) (search rules) (search rules);
  grams_under = search rules;
  counts_under = search rules;
  same = c.totals_by_heading-sums.ensures;
}) (omega arith)

pub overflow_add-running : goal.overflow_add-running
overflow_add-running g c = sum_fits c.loop-k.invariant (omega arith)

pub overflow_sub-figures : goal.overflow_sub-figures
overflow_sub-figures g c = rest_fits c.loop-k.invariant (omega arith) c.whole_kilograms-kilograms.ensures

pub overflow_add-total : goal.overflow_add-total
overflow_add-total g c = count_fits c.loop-k.invariant (omega arith)

pub loop-k-preserved : goal.loop-k-preserved
loop-k-preserved g c = one_drawn c.loop-k.invariant (omega arith) c.whole_kilograms-kilograms.ensures

pub returns-clause-value : goal.returns-clause-value
returns-clause-value g c = all_drawn c.loop-k.invariant (omega arith)

pub returns-clause-adds : goal.returns-clause-adds
returns-clause-adds g c = total_adds c.loop-k.invariant (omega arith)

pub returns-clause-near : goal.returns-clause-near
returns-clause-near g c = near_page c.loop-k.invariant.headed.page
