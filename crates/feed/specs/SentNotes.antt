-- The notes that are sent into a sheet, and what they say.
use Rattle.std.specs.Prelude.{◌≡◌, ℕ, List, Some, None, Option, IsSomeAnd}
use Rattle.feed.specs.declared.entry.SentQuantity.{SentQuantity}
use Rattle.feed.specs.declared.kind.Kind.{Kind}
use Rattle.feed.specs.declared.kind.Kind.TheVariants.{Building, Factor, Counted, Measured, Withdrawal as WithdrawalNote}
use Rattle.feed.specs.declared.sent_note.SentNote.{SentNote}
use Rattle.feed.specs.declared.sent_note.SentContent.{SentContent}
use Rattle.feed.specs.declared.sent_note.SentContent.TheVariants.{Entry, Withdrawal}
use Rattle.domain.specs.declared.entry.Entry.{Entry as BookedEntry}
use Rattle.feed.specs.EntryFields.{number_offset, revision_offset, entry_head_of_note, entry_kind, kind_quantity, decoded_entry}
use Rattle.feed.specs.Fields.{field}
use Rattle.feed.specs.Kinds.{kind_of_note}

-- entries and withdrawals are the kinds that are sent
abbrev pub IsSent : Kind → Type 0
IsSent Building = ⊥
IsSent Factor = ⊥
IsSent Counted = Unit {0}
IsSent Measured = Unit {0}
IsSent WithdrawalNote = Unit {0}

-- what a note says under its number: an entry if it has a quantity, and otherwise a withdrawal
abbrev pub content_of : Option SentQuantity → List ℕ → SentContent
content_of (Some q) note = Entry (record { head = entry_head_of_note note; quantity = q })
content_of None note = Withdrawal

-- a note that is sent: its number, its revision and its content
abbrev pub sent_note_of : List ℕ → SentNote
sent_note_of note = record {
  number = field note number_offset 4;
  revision = field note revision_offset 4;
  content = content_of (kind_quantity (kind_of_note note) note) note;
}

-- the note is of a kind that is sent, and says s
abbrev pub SaysSentNote : List ℕ → SentNote → Type 0
SaysSentNote note s = IsSomeAnd (kind_of_note note) IsSent × (s ≡ sent_note_of note)

-- the entry in the form in which it is booked, if the content is an entry
abbrev pub entry_of_content : SentContent → Option BookedEntry
entry_of_content (Entry e) = Some (decoded_entry e)
entry_of_content Withdrawal = None

-- the kind of note that holds such content
abbrev pub content_kind : SentContent → Kind
content_kind (Entry e) = entry_kind e.quantity
content_kind Withdrawal = WithdrawalNote
