use Rattle.std.proofs.lemmas.Result.{err_from_is_err_and}
use Rattle.sheet.proofs.Sending.{unread}
use Rattle.sheet.proofs.sheet.Sheet.place_of.Goals as goal

pub returns-in_err-sent-clause-value : goal.returns-in_err-sent-clause-value
returns-in_err-sent-clause-value g c =
    let exit = err_from_is_err_and c.from_residual.result c.from_residual.ensures.1 in
    let factor_map = g.S.FactorSource.factor_map c.args.self.now.source in
    rw (exit.1, exit.2) (unread c.args.self.now.building.life factor_map c.args.bytes.now c.in_err-sent.field-0.0 c.in_err-sent.ensures.value)
