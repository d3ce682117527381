-- Reading the first note of bytes: when it is refused, and which value it gives.
use Rattle.std.specs.Prelude.{◌≡◌, ℕ, List, [], ◌∷◌, ◌++◌, length, Option, IsSomeAnd, IfSome, Result}
use Rattle.refusals.specs.declared.refusal.Refusal.{Refusal}
use Rattle.refusals.specs.declared.refusal.Refusal.TheVariants.{Unframed, UnexpectedKind, WrongLength, OutOfRange}
use Rattle.refusals.specs.Refusals.{refusal_number, Conditions, GivesOrRefuses}
use Rattle.domain.specs.declared.building.Building.{Building}
use Rattle.domain.specs.declared.factor.FactorRow.{FactorRow}
use Rattle.domain.specs.Buildings.{IsBuildingInRange}
use Rattle.domain.specs.Factors.{IsFactorInRange}
use Rattle.feed.specs.declared.kind.Kind.{Kind}
use Rattle.feed.specs.declared.kind.Kind.TheVariants.{Building as BuildingNote, Factor as FactorNote}
use Rattle.feed.specs.BuildingFields.{building_of_note, IsBuilding}
use Rattle.feed.specs.FactorFields.{factor_row_of_note, IsFactorRow}
use Rattle.feed.specs.Frames.{IsFramed, first_note}
use Rattle.feed.specs.Kinds.{kind_of_note, note_length}

-- the condition for bytes to have a first note
abbrev pub framing_conditions : List ℕ → Conditions
framing_conditions bs = (refusal_number Unframed, IsFramed bs) ∷ []

-- the numbers of a building and of a factor row are in range; nothing is asked of the other kinds
abbrev pub HasFieldsInRange : Kind → List ℕ → Type 0
HasFieldsInRange BuildingNote note = IsBuildingInRange (building_of_note note)
HasFieldsInRange FactorNote note = IsFactorInRange (factor_row_of_note note).factor
HasFieldsInRange kind note = Unit {0}

-- the conditions on a note of this kind: the kind is one that is read, the note has the length of its kind, and its
-- fields are in range
abbrev pub form_conditions : (Kind → Type 0) → Option Kind → List ℕ → Conditions
form_conditions Wanted kind note =
    (refusal_number UnexpectedKind, IsSomeAnd kind Wanted)
    ∷ (refusal_number WrongLength, IfSome kind (λ k. length note ≡ note_length k))
    ∷ (refusal_number OutOfRange, IfSome kind (λ k. HasFieldsInRange k note))
    ∷ []

-- the conditions on bytes from which a note is read; Wanted holds of the kinds that are read
abbrev pub reading_conditions : (Kind → Type 0) → List ℕ → Conditions
reading_conditions Wanted bs =
    framing_conditions bs ++ form_conditions Wanted (kind_of_note (first_note bs)) (first_note bs)

-- r is the result of reading the first note of bs; Value says which value a note gives
abbrev pub Reads : {X : Type 0} → (Kind → Type 0) → (List ℕ → X → Type 0) → List ℕ → Result X Refusal → Type 0
Reads Wanted Value bs r = GivesOrRefuses (reading_conditions Wanted bs) (Value (first_note bs)) r

-- r is the result of reading a building from the first note of bs
abbrev pub ReadsBuilding : List ℕ → Result Building Refusal → Type 0
ReadsBuilding bs r = Reads (λ kind. kind ≡ BuildingNote) IsBuilding bs r

-- r is the result of reading a factor row from the first note of bs
abbrev pub ReadsFactorRow : List ℕ → Result FactorRow Refusal → Type 0
ReadsFactorRow bs r = Reads (λ kind. kind ≡ FactorNote) IsFactorRow bs r
