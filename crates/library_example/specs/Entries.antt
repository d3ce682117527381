-- The entries that are sent.
use Rattle.std.specs.Prelude.{ℕ}
use Rattle.feed.specs.declared.entry.SentQuantity.TheVariants.{Counted}
use Rattle.feed.specs.declared.sent_note.SentNote.{SentNote}
use Rattle.feed.specs.declared.sent_note.SentContent.TheVariants.{Entry}

-- an entry that is counted and has no span
abbrev pub counted_entry : (number revision row code thousandths : ℕ) → SentNote
counted_entry number revision row code thousandths = record {
  number = number;
  revision = revision;
  content = Entry (record { head = record { row = row; span = 0; code = code }; quantity = Counted thousandths });
}
