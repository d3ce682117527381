-- What a note of each kind says.
use Rattle.std.specs.Prelude.{ℕ, List}
use Rattle.feed.specs.declared.kind.Kind.{Kind}
use Rattle.feed.specs.declared.kind.Kind.TheVariants.{Building as BuildingNote, Factor as FactorNote}
use Rattle.feed.specs.declared.note.Note.{Note}
use Rattle.feed.specs.declared.note.Note.TheVariants.{Building, Factor, Sent}
use Rattle.feed.specs.BuildingFields.{IsBuilding}
use Rattle.feed.specs.FactorFields.{IsFactorRow}
use Rattle.feed.specs.Kinds.{IsOfKind}
use Rattle.feed.specs.SentNotes.{SaysSentNote}

-- holds of every kind
abbrev pub IsAnyKind : Kind → Type 0
IsAnyKind kind = Unit {0}

-- the bytes of a note say this: they are of its kind and have its fields
abbrev pub Says : List ℕ → Note → Type 0
Says note (Building b) = IsOfKind BuildingNote note × IsBuilding note b
Says note (Factor row) = IsOfKind FactorNote note × IsFactorRow note row
Says note (Sent s) = SaysSentNote note s
