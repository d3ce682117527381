use Rattle.std.proofs.Common.{sym, ap, ◌∙◌}
use Rattle.feed.specs.Kinds.{kind_of, IsOfKind}
use Rattle.feed.proofs.Reading.{reads_note, reads_alone}
use Rattle.feed.proofs.content.read.Goals as goal

pub returns : goal.returns
returns g c =
    let wanted = g.T.Content.wanted in
    let says = g.T.Content.says in
    let framed = c.in_ok-note.ensures.0.0 in
    let is_kind : IsOfKind c.in_ok-kind.kind c.in_ok-note.note.now = ap kind_of (sym c.kind_field.ensures) ∙ c.in_ok-kind.ensures.1 in
    let value = reads_note wanted says c.args.bytes.now c.of_note.result framed c.in_ok-note.ensures.1 is_kind c.of_note.ensures in
    record { value = value; alone = reads_alone wanted says c.args.bytes.now c.of_note.result value }
