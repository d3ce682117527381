use Rattle.std.proofs.Common.{◌∙◌, sym, arith}
use Rattle.std.proofs.lemmas.List.{nil_from_length}
use Rattle.report.proofs.Sends.{none_sent, note_sent, no_more, all_sent, left_sent}
use Rattle.report.proofs.sending.send_all.Goals as goal

pub loop-part-init : goal.loop-part-init
loop-part-init g c = λ b factor_map fresh. none_sent c.new-reader.ensures fresh c.new-text.ensures.bytes

pub loop-part-preserved : goal.loop-part-preserved
loop-part-preserved g c = λ b factor_map fresh.
    let hands = c.in-Some.ensures in
    note_sent (c.loop-part.invariant b factor_map fresh) c.in-Some.part hands.place c.in_ok-send.ensures hands

pub returns-then-is_empty : goal.returns-then-is_empty
returns-then-is_empty g c = λ b factor_map fresh.
    let last = no_more (c.loop-part.invariant b factor_map fresh) c.in_default.ensures.0 in
    all_sent last (sym c.rest-left.ensures.bytes ∙ nil_from_length _ (grind (arith, c.if-is_empty.ensures)))

pub returns : goal.returns
returns g c = λ b factor_map fresh.
    let last = no_more (c.loop-part.invariant b factor_map fresh) c.in_default.ensures.0 in
    left_sent last c.rest-left.result c.rest-left.ensures.place c.in_ok-send-2.ensures c.in_default.ensures.1 c.rest-left.ensures (grind (arith, c.if-is_empty.ensures))
