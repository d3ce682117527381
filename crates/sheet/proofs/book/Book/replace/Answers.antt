use Rattle.std.proofs.lemmas.Result.{err_from_is_err_and}
use Rattle.sheet.proofs.Places.{puts_nothing, puts_there}
use Rattle.sheet.proofs.book.Book.replace.Goals as goal

pub returns-in_err-check_replaces : goal.returns-in_err-check_replaces
returns-in_err-check_replaces c =
    let exit = err_from_is_err_and c.from_residual.result c.from_residual.ensures.1 in
    rw (exit.1, exit.2) (puts_nothing c.args.new c.args.self.now c.requires c.in_err-check_replaces.ensures)

pub returns : goal.returns
returns c = puts_there c.args.new c.args.self.now c.requires c.in_ok-check_replaces.ensures.0
