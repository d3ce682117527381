use Rattle.std.proofs.Common.{ap, map}
use Rattle.std.proofs.lemmas.List.{map_more, take_all}
use Rattle.sheet.proofs.WholeHistories.{none_sent, one_sent, accounted, page_drawn, grade_given}
use Rattle.sheet.proofs.all_calls.page_and_grade.Goals as goal

pub loop-bytes-init : goal.loop-bytes-init
loop-bytes-init g c = none_sent c.open-sheet.ensures

pub loop-bytes-preserved : goal.loop-bytes-preserved
loop-bytes-preserved g c =
    one_sent c.loop-bytes.invariant c.send.ensures.value (map_more (λ bytes. bytes.now) c.args.sends.now c.loop-bytes.bytes-index _ c.loop-bytes-test.true)

pub returns : goal.returns
returns g c =
    let all = ap (map (λ bytes. bytes.now)) (take_all c.loop-bytes.bytes-index c.args.sends.now c.loop-bytes-test.false) in
    let calls = accounted c.loop-bytes.invariant all c.page-total.ensures.value c.grade.ensures.value in
    record { calls = calls; page = page_drawn calls; award = grade_given calls }
