use Rattle.std.proofs.Common.{◌≡◌, take, vec_items}
use Rattle.listing.proofs.FitRows.{fit}
use Rattle.listing.proofs.basis.fit_rows.Given as goal

abbrev pub invariant-loop-answer : goal.invariant-loop-answer
invariant-loop-answer l = vec_items l.rows ≡ fit (take l.answer-index l.answers)
