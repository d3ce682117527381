use Rattle.std.proofs.Common.{ℕ, List, sym, subst, vec_items}
use Rattle.std.proofs.lemmas.Result.{err_from_is_err_and}
use Rattle.feed.specs.FactorRows.{ReadsEachRow}
use Rattle.report.proofs.Opening.{refused_long, not_opened, row_not_taken, taken}
use Rattle.report.proofs.project.Project.read.Goals as goal

pub returns-in_err-check_length : goal.returns-in_err-check_length
returns-in_err-check_length c =
    let exit = err_from_is_err_and c.from_residual.result c.from_residual.ensures.1 in
    rw (exit.1, exit.2, c.in_err-check_length.ensures.0) (refused_long c.args.feed.now c.in_err-check_length.ensures.1)

pub returns-in_err-opening : goal.returns-in_err-opening
returns-in_err-opening c =
    let exit = err_from_is_err_and c.from_residual-in_err-opening.result c.from_residual-in_err-opening.ensures.1 in
    rw (exit.1, exit.2) (not_opened c.args.feed.now c.in_ok-check_length.ensures.0 c.in_err-opening.field-0.0 c.in_err-opening.ensures)

pub returns-in_err-rows : goal.returns-in_err-rows
returns-in_err-rows c =
    let exit = err_from_is_err_and c.from_residual-in_err-rows.result c.from_residual-in_err-rows.ensures.1 in
    let own = λ (notes : List (List ℕ)) (read : ReadsEachRow notes (vec_items c.in_ok-opening.opening.rows)). c.in_err-rows.ensures notes (subst (ReadsEachRow notes) (sym c.as_slice.ensures.value) read) in
    rw (exit.1, exit.2) (row_not_taken c.args.feed.now c.in_ok-check_length.ensures.0 c.in_ok-opening.ensures c.in_err-rows.field-0.0 own)

pub returns : goal.returns
returns c =
    let own = λ (notes : List (List ℕ)) (read : ReadsEachRow notes (vec_items c.in_ok-opening.opening.rows)). c.in_ok-rows.ensures notes (subst (ReadsEachRow notes) (sym c.as_slice.ensures.value) read) in
    rw c.rest.ensures.bytes (taken c.args.feed.now c.in_ok-check_length.ensures.0 c.in_ok-opening.ensures (vec_items c.in_ok-rows.rows) own)
