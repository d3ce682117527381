-- The text of a note: its kind, and its fields by name.
use Rattle.std.specs.Prelude.{ℕ, List, [], ◌∷◌, ◌++◌, codes}
use Rattle.domain.specs.Buildings.{numbers_of}
use Rattle.domain.specs.FieldTexts.{NamedField, fields_text, head_fields, building_text, factor_row_text}
use Rattle.feed.specs.declared.entry.SentEntry.{SentEntry}
use Rattle.feed.specs.declared.entry.SentQuantity.{SentQuantity}
use Rattle.feed.specs.declared.entry.SentQuantity.TheVariants.{Counted, Measured}
use Rattle.feed.specs.declared.kind.Kind.{Kind}
use Rattle.feed.specs.declared.note.Note.{Note}
use Rattle.feed.specs.declared.note.Note.TheVariants.{Building, Factor, Sent}
use Rattle.feed.specs.declared.sent_note.SentNote.{SentNote}
use Rattle.feed.specs.declared.sent_note.SentContent.{SentContent}
use Rattle.feed.specs.declared.sent_note.SentContent.TheVariants.{Entry, Withdrawal}
use Rattle.feed.specs.Kinds.{kind_word}
use Rattle.feed.specs.SentNotes.{content_kind}

-- a counted quantity is called `quantity`, and the bits of a measured one `bits`
abbrev pub quantity_field : SentQuantity → NamedField
quantity_field (Counted n) = (codes "quantity", n)
quantity_field (Measured b) = (codes "bits", b)

abbrev pub entry_fields : SentEntry → List NamedField
entry_fields e = head_fields e.head ++ (quantity_field e.quantity ∷ [])

abbrev pub content_fields : SentContent → List NamedField
content_fields (Entry e) = entry_fields e
content_fields Withdrawal = []

-- the word for a kind, and fields
abbrev pub kind_text : Kind → List NamedField → List ℕ
kind_text kind fields = kind_word kind ++ (codes " " ++ fields_text fields)

-- the text of a note that is sent: its number and its revision come first
abbrev pub sent_note_text : SentNote → List ℕ
sent_note_text s =
    kind_text (content_kind s.content)
    ((codes "number", s.number) ∷ (codes "revision", s.revision) ∷ content_fields s.content)

-- the text of a note of any kind
abbrev pub note_text : Note → List ℕ
note_text (Building b) = building_text (numbers_of b)
note_text (Factor row) = factor_row_text row
note_text (Sent s) = sent_note_text s
