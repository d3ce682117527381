use Rattle.std.proofs.Common.{vec_items}
use Rattle.feed.proofs.ReaderEnds.{bytes_left}
use Rattle.feed.proofs.FactorRows.{RowsSoFar}
use Rattle.feed.proofs.opening.Opening.read.Given as goal

abbrev pub invariant-loop-note : goal.invariant-loop-note
invariant-loop-note l = RowsSoFar l.feed l.initial.rest l.rest (vec_items l.rows)

abbrev pub decreases-loop-note : goal.decreases-loop-note
decreases-loop-note l = bytes_left l.rest
