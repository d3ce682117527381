use Rattle.std.proofs.Common.{◌≡◌, drop}
use Rattle.factors.specs.Lists.{list_map}
use Rattle.factors.proofs.list.ProjectListFactorSource.factor.Given as goal

-- no row so far has a factor for the code
abbrev pub invariant-loop-row : goal.invariant-loop-row
invariant-loop-row l = list_map (drop l.row-index l.row-items) l.code ≡ list_map l.initial.self.rows.now l.initial.code
