use Rattle.domain.specs.Buildings.{numbers_of}
use Rattle.grades.specs.Grades.{grade_number}
use Rattle.tables.specs.Gradings.{IsGivenWithin}
use Rattle.tables.specs.Searches.{FindsLargest}
use Rattle.tables.proofs.search.largest_limit.Given as goal

-- of those that were tried
abbrev pub invariant-loop-limit : goal.invariant-loop-limit
invariant-loop-limit l = FindsLargest (IsGivenWithin (grade_number l.grade) (numbers_of l.building)) l.limit l.largest
