use Rattle.std.proofs.Common.{Some, None, Ok, ◌≡◌, [], refl, ap, ◌∙◌, subst, arith, length-drop, length, rules}
use Rattle.std.proofs.lemmas.Grind.{common_steps}
use Rattle.feed.specs.declared.reader.Part.{Part}
use Rattle.feed.specs.Feeds.{AnswersNext, HandsOut, rest_of}
use Rattle.feed.specs.Frames.{IsFramed, first_note}
use Rattle.feed.proofs.Framing.{length_first}
use Rattle.feed.proofs.ReaderLaw.{lawful_call}
use Rattle.feed.proofs.reader.Reader.try_next.Goals as goal

pub returns-then-is_empty : goal.returns-then-is_empty
returns-then-is_empty c =
    let self = c.args.self.now in
    let none : rest_of self ≡ [] = grind (arith, common_steps) in
    let answers : AnswersNext self (Ok None) self = (none, record { over = refl; bytes = refl; notes = refl }) in
    record { value = answers; law = lawful_call self (Ok None) self answers }

pub returns-in_err-bytes : goal.returns-in_err-bytes
returns-in_err-bytes c =
    let self = c.args.self.now in
    let answers : AnswersNext self c.from_residual.result self = search rules in
    record { value = answers; law = lawful_call self _ self answers }

pub invariant_of-self : goal.invariant_of-self
invariant_of-self c =
    let self = c.args.self.now in
    let framed = c.in_ok-bytes.ensures.0.0 in
    let long = ap length c.in_ok-bytes.ensures.1 ∙ length_first c.rest-left.result.bytes.now framed in
    let rest = ap length c.rest-left.ensures.bytes ∙ length-drop self.start self.feed.now in
    record { start_within = omega (arith, self.start_within, framed.whole); handed_within = omega (arith, self.handed_within, framed.least) }

pub returns : goal.returns
returns c =
    let left = c.rest-left.ensures in
    let part : Part = record { place = c.rest-left.result.place; start = c.rest-left.result.start; bytes = c.in_ok-bytes.bytes } in
    let step = c.in_ok-bytes.ensures in
    let answers : HandsOut c.args.self.now part _ =
    record {
      framed = subst IsFramed left.bytes step.0.0;
      note = step.1 ∙ ap first_note left.bytes;
      place = left.place;
      start = left.start;
      over = refl;
      bytes = refl;
      notes = refl;
    } in
    record { value = answers; law = lawful_call _ (Ok (Some part)) _ answers }
