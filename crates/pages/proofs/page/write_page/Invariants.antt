use Rattle.pages.proofs.PageLoop.{Drawn}
use Rattle.pages.proofs.page.write_page.Given as goal

abbrev pub invariant-loop-k : goal.invariant-loop-k
invariant-loop-k g l = Drawn (g.C.Cut.assignment l.cut) l.fn.totals l.sums g.C.Cut.HEADINGS l.initial.figures l.figures l.running l.total l.k
