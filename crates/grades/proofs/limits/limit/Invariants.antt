use Rattle.std.proofs.Common.{◌≡◌, map, drop}
use Rattle.domain.specs.Buildings.{numbers_of}
use Rattle.grades.specs.Limits.{limit, limits_of_row}
use Rattle.grades.proofs.limits.limit.Given as goal

-- no row so far is for the building
abbrev pub invariant-loop-row : goal.invariant-loop-row
invariant-loop-row l =
    limit (map limits_of_row (drop l.row-index l.table)) (numbers_of l.building) ≡ limit (map limits_of_row l.initial.table) (numbers_of l.initial.building)
