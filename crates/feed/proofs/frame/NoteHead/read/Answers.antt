use Rattle.feed.proofs.Reading.{headed}
use Rattle.feed.proofs.frame.NoteHead.read.Goals as goal

pub kind_field-requires : goal.kind_field-requires
kind_field-requires c = headed c.in_ok-note.ensures.0.0 c.in_ok-note.ensures.1
