use Rattle.std.proofs.Common.{◌≡◌, string_bytes}
use Rattle.factors.specs.Maps.{FactorMap}
use Rattle.domain.specs.declared.building.BuildingNumbers.{BuildingNumbers}
use Rattle.feed.proofs.ReaderEnds.{bytes_left}
use Rattle.sheet.specs.States.{state_of, new_state}
use Rattle.report.proofs.Sends.{SentSoFar}
use Rattle.report.proofs.sending.send_all.Given as goal

abbrev pub invariant-loop-part : goal.invariant-loop-part
invariant-loop-part g l =
    (b : BuildingNumbers) (factor_map : FactorMap) → state_of g.S.FactorSource.factor_map l.fn.sheet ≡ new_state b factor_map → SentSoFar b factor_map l.notes l.reader (state_of g.S.FactorSource.factor_map l.sheet) (string_bytes l.text)

abbrev pub decreases-loop-part : goal.decreases-loop-part
decreases-loop-part g l = bytes_left l.reader
