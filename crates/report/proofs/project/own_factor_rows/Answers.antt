use Rattle.std.proofs.Common.{◌∙◌, subst, vec_items, Ok, Err}
use Rattle.std.proofs.lemmas.List.{drop_more, drop_all}
use Rattle.std.proofs.lemmas.Result.{err_from_is_err_and}
use Rattle.report.specs.Projects.{ReadsFactorRowAfter}
use Rattle.report.proofs.OwnRows.{Gathered, none_gathered, one_gathered, one_refused, all_gathered}
use Rattle.report.proofs.project.own_factor_rows.Goals as goal

pub loop-answer-init : goal.loop-answer-init
loop-answer-init c = λ notes read. none_gathered read c.new-rows.ensures.items

pub loop-answer-preserved : goal.loop-answer-preserved
loop-answer-preserved c = λ notes read.
    let answers = c.args.answers.now in
    let count = c.len.ensures ∙ c.loop-answer.rows.ok.0 in
    let old = subst (λ rest. Gathered notes rest (vec_items c.loop-answer.rows)) (drop_more answers c.loop-answer.answer-index _ c.loop-answer-test.true) (c.loop-answer.invariant notes read) in
    one_gathered old c.in_ok-row.row (λ note reads. subst (λ n. ReadsFactorRowAfter n note (Ok c.in_ok-row.row)) count (c.in_ok-row.ensures note reads)) c.in_ok-push.ensures.items

pub returns-in_err-row : goal.returns-in_err-row
returns-in_err-row c = λ notes read.
    let answers = c.args.answers.now in
    let refusal = c.in_err-row.field-0.0 in
    let count = c.len.ensures ∙ c.loop-answer.rows.ok.0 in
    let old = subst (λ rest. Gathered notes rest (vec_items c.loop-answer.rows)) (drop_more answers c.loop-answer.answer-index _ c.loop-answer-test.true) (c.loop-answer.invariant notes read) in
    let exit = err_from_is_err_and c.from_residual.result c.from_residual.ensures.1 in
    rw (exit.1, exit.2) (one_refused old refusal (λ note reads. subst (λ n. ReadsFactorRowAfter n note (Err refusal)) count (c.in_err-row.ensures note reads)))

pub returns : goal.returns
returns c = λ notes read.
    all_gathered (subst (λ rest. Gathered notes rest (vec_items c.loop-answer.rows)) (drop_all c.loop-answer.answer-index c.args.answers.now c.loop-answer-test.false) (c.loop-answer.invariant notes read))
