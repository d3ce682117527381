use Rattle.std.proofs.Common.{◌≡◌, ◌+◌, ◌-◌, ◌∙◌, ap, take, drop, arith}
use Rattle.feed.specs.Fields.{little_endian_number, field}
use Rattle.feed.proofs.little_endian.number_at.Goals as goal

pub returns : goal.returns
unfolding field
returns g c =
    let n : c.args.at + g.row.N - c.args.at ≡ g.row.N = omega arith in
    let chunk = rw c.unwrap.ensures at c.try_into.ensures.1 in
    c.from_bytes.ensures ∙ ap little_endian_number chunk.same ∙ ap (λ k. little_endian_number (take k (drop c.args.at c.args.note.now))) n
