use Rattle.domain.specs.Buildings.{numbers_of}
use Rattle.grades.specs.Grades.{grade_number}
use Rattle.tables.specs.Gradings.{IsGivenBelow}
use Rattle.tables.specs.Searches.{FindsLargest}
use Rattle.tables.proofs.search.largest_share.Given as goal

-- of those that were tried
abbrev pub invariant-loop-share : goal.invariant-loop-share
invariant-loop-share l = FindsLargest (IsGivenBelow (grade_number l.grade) (numbers_of l.building)) l.share l.largest
