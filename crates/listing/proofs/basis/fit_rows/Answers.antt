use Rattle.std.proofs.Common.{◌∙◌, ◌++◌, ◌∷◌, [], sym, ap, subst}
use Rattle.std.proofs.lemmas.List.{take_all}
use Rattle.listing.proofs.FitRows.{fit, row_more, refusal_more, fit_rows}
use Rattle.listing.specs.Bases.{KeepsFitFactorRows}
use Rattle.listing.proofs.basis.fit_rows.Goals as goal

pub loop-answer-preserved-in_default : goal.loop-answer-preserved-in_default
loop-answer-preserved-in_default c = c.loop-answer.invariant ∙ sym (refusal_more c.args.answers.now c.loop-answer.answer-index _ c.loop-answer-test.true c.in_default.is)

pub loop-answer-preserved : goal.loop-answer-preserved
loop-answer-preserved c =
    c.in_ok-push.ensures.items ∙ ap (λ rows. rows ++ (c.in-Ok.row ∷ [])) c.loop-answer.invariant
    ∙ sym (row_more c.args.answers.now c.loop-answer.answer-index _ c.loop-answer-test.true c.in-Ok.is)

pub returns : goal.returns
returns c = λ notes read.
    subst (KeepsFitFactorRows notes) (sym (c.loop-answer.invariant ∙ ap fit (take_all c.loop-answer.answer-index c.args.answers.now c.loop-answer-test.false))) (fit_rows notes c.args.answers.now read)
