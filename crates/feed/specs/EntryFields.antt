-- The fields of an entry, by their offsets in its note, and the form in which it is booked.
use Rattle.std.specs.Prelude.{ℕ, ◌+◌, List, Some, None, Option, from_bits}
use Rattle.std.specs.Float.{binary64}
use Rattle.domain.specs.declared.entry.Entry.{Entry}
use Rattle.domain.specs.declared.entry.EntryHead.{EntryHead}
use Rattle.domain.specs.declared.entry.Quantity.{Quantity}
use Rattle.domain.specs.declared.entry.Quantity.TheVariants.{Counted as Thousandths, Measured as Units}
use Rattle.feed.specs.declared.entry.SentEntry.{SentEntry}
use Rattle.feed.specs.declared.entry.SentQuantity.{SentQuantity}
use Rattle.feed.specs.declared.entry.SentQuantity.TheVariants.{Counted, Measured}
use Rattle.feed.specs.declared.kind.Kind.{Kind}
use Rattle.feed.specs.declared.kind.Kind.TheVariants.{Building, Factor, Counted as CountedEntry, Measured as MeasuredEntry, Withdrawal}
use Rattle.feed.specs.Fields.{field}

-- offsets: every note that is sent has its number and its revision after its length and its kind; an entry then has its
-- row, span, code and quantity
abbrev pub number_offset : ℕ
number_offset = 4

abbrev pub revision_offset : ℕ
revision_offset = number_offset + 4

abbrev pub row_offset : ℕ
row_offset = revision_offset + 4

abbrev pub span_offset : ℕ
span_offset = row_offset + 2

abbrev pub code_offset : ℕ
code_offset = span_offset + 2

abbrev pub quantity_offset : ℕ
quantity_offset = code_offset + 4

-- the row, span and code in the note of an entry
abbrev pub entry_head_of_note : List ℕ → EntryHead
entry_head_of_note note = record {
  row = field note row_offset 2;
  span = field note span_offset 2;
  code = field note code_offset 4;
}

-- the quantity in a note of this kind, if the kind has one; the kind decides the form
abbrev pub kind_quantity : Option Kind → List ℕ → Option SentQuantity
kind_quantity None note = None
kind_quantity (Some Building) note = None
kind_quantity (Some Factor) note = None
kind_quantity (Some CountedEntry) note = Some (Counted (field note quantity_offset 8))
kind_quantity (Some MeasuredEntry) note = Some (Measured (field note quantity_offset 8))
kind_quantity (Some Withdrawal) note = None

-- the kind of note that holds such a quantity
abbrev pub entry_kind : SentQuantity → Kind
entry_kind (Counted n) = CountedEntry
entry_kind (Measured b) = MeasuredEntry

-- a quantity as it is booked: the bits of a measured one are decoded to a binary64 number
abbrev pub decoded_quantity : SentQuantity → Quantity
decoded_quantity (Counted n) = Thousandths n
decoded_quantity (Measured b) = Units (from_bits binary64 b)

-- an entry as it is booked
abbrev pub decoded_entry : SentEntry → Entry
decoded_entry e = record { head = e.head; quantity = decoded_quantity e.quantity }
