use Rattle.sheet.proofs.LineTotals.{Tallied}
use Rattle.sheet.proofs.book.Book.totals.Given as goal

abbrev pub invariant-loop-place : goal.invariant-loop-place
invariant-loop-place l = Tallied l.places l.place-index l.grams l.counts
