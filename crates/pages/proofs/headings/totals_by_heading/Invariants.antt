use Rattle.pages.proofs.HeadingLoop.{SoFar}
use Rattle.pages.proofs.headings.totals_by_heading.Given as goal

abbrev pub invariant-loop-at : goal.invariant-loop-at
invariant-loop-at g l = SoFar (g.C.Cut.assignment l.cut) l.totals l.grams l.counts l.at
