use Rattle.std.proofs.Common.{ℕ, List, drop, vec_items}
use Rattle.feed.specs.FactorRows.{ReadsEachRow}
use Rattle.report.proofs.OwnRows.{Gathered}
use Rattle.report.proofs.project.own_factor_rows.Given as goal

abbrev pub invariant-loop-answer : goal.invariant-loop-answer
invariant-loop-answer l = (notes : List (List ℕ)) → ReadsEachRow notes l.answers → Gathered notes (drop l.answer-index l.answers) (vec_items l.rows)
