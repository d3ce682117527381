use Rattle.std.proofs.Common.{refl, rules}
use Rattle.std.proofs.Output.{has_written_append, has_written_of_eq}
use Rattle.report.proofs.Headings.{heading_next, page_ended}
use Rattle.report.proofs.page_lines.PageLinesDisplay.fmt.Goals as goal

pub loop-k-preserved : goal.loop-k-preserved
loop-k-preserved g c = λ plain.
    let lines = c.loop-k.invariant plain in
    has_written_of_eq _ _ _ _ _ (heading_next c.args.self.now.headings.now c.loop-k.k _ c.loop-k-test.true) (has_written_append _ _ _ _ _ _ lines (c.in_ok-write.ensures.writes lines.plain refl))

pub returns-clause-writes : goal.returns-clause-writes
returns-clause-writes g c = λ plain ok.
    let lines = c.loop-k.invariant plain in
    has_written_of_eq _ _ _ _ _ (page_ended c.args.self.now.headings.now c.args.self.now.total c.loop-k.k c.loop-k-test.false) (has_written_append _ _ _ _ _ _ lines (search rules))
