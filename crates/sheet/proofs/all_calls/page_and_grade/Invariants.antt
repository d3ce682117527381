use Rattle.std.proofs.Common.{map, take}
use Rattle.domain.specs.Buildings.{numbers_of}
use Rattle.sheet.specs.States.{state_of}
use Rattle.sheet.proofs.WholeHistories.{SoFar}
use Rattle.sheet.proofs.all_calls.page_and_grade.Given as goal

abbrev pub invariant-loop-bytes : goal.invariant-loop-bytes
invariant-loop-bytes g l = SoFar (numbers_of l.fn.building) (g.S.FactorSource.factor_map l.fn.source) (map (λ bytes. bytes.now) (take l.bytes-index l.sends)) (state_of g.S.FactorSource.factor_map l.sheet)
