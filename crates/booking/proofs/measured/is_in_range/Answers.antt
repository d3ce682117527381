use Rattle.std.proofs.Common.{sym, true≢false, ◌∙◌}
use Rattle.booking.proofs.Measures.{nan_out, passes, passed}
use Rattle.booking.proofs.measured.is_in_range.Goals as goal

pub returns-then-is_nan : goal.returns-then-is_nan
returns-then-is_nan c = (λ t. absurd (true≢false (sym t)), λ r. absurd (nan_out c.args.x (sym c.if-is_nan.ensures.value) r))

pub returns-then-x : goal.returns-then-x
returns-then-x c = (passes c.args.x c.if-x.true, λ r. (passed c.args.x r).1)

pub returns-else-x : goal.returns-else-x
returns-else-x c = (λ t. absurd (true≢false (sym t ∙ c.if-x.false)), λ r. (passed c.args.x r).0)
