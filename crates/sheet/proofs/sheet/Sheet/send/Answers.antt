use Rattle.std.proofs.Common.{rules}
use Rattle.std.proofs.lemmas.Result.{err_from_is_err_and}
use Rattle.sheet.specs.Histories.{send}
use Rattle.sheet.specs.Places.{book_places, place_numbers}
use Rattle.sheet.proofs.Indexing.{kept}
use Rattle.sheet.proofs.Lawful.{lawful}
use Rattle.sheet.proofs.Sending.{unfit, fit}
use Rattle.sheet.proofs.sheet.Sheet.send.Goals as goal

pub returns-in_err-place-clause-value : goal.returns-in_err-place-clause-value
returns-in_err-place-clause-value g c =
    let exit = err_from_is_err_and c.from_residual.result c.from_residual.ensures.1 in
    let refused = c.in_err-place.ensures in
    rw (exit.1, exit.2) (unfit refused.value refused.named)

pub returns-in_err-place-clause-law : goal.returns-in_err-place-clause-law
returns-in_err-place-clause-law g c = λ b factor_map before history. lawful b factor_map (send history (returns-in_err-place-clause-value g c))

pub returns-in_err-put-clause-value : goal.returns-in_err-put-clause-value
returns-in_err-put-clause-value g c =
    let exit = err_from_is_err_and c.from_residual-in_err-put.result c.from_residual-in_err-put.ensures.1 in
    rw (exit.1, exit.2) (fit c.in_ok-place.ensures.value c.in_err-put.ensures)

pub returns-in_err-put-clause-law : goal.returns-in_err-put-clause-law
returns-in_err-put-clause-law g c = λ b factor_map before history. lawful b factor_map (send history (returns-in_err-put-clause-value g c))

pub returns-clause-value : goal.returns-clause-value
returns-clause-value g c = fit c.in_ok-place.ensures.value c.in_ok-put.ensures

pub returns-clause-law : goal.returns-clause-law
returns-clause-law g c = λ b factor_map before history. lawful b factor_map (send history (returns-clause-value g c))

pub invariant_of-self-2 : goal.invariant_of-self-2
invariant_of-self-2 g c =
    let before = c.args.self.now in
    record { indexed = kept before.index (book_places before.book) (place_numbers c.in_ok-place.place) (search rules) before.indexed c.len-next.ensures.value c.lower.ensures c.in_ok-put.ensures.answer.1 }
