-- Bases: the building and the factors by which the entries of a feed are booked.
use Rattle.std.specs.Prelude.{ℕ, List, [], ◌∷◌, Some, None, Ok, Err, vec_items, Option, Result}
use Rattle.refusals.specs.declared.refusal.Refusal.{Refusal}
use Rattle.domain.specs.declared.building.Building.{Building}
use Rattle.domain.specs.declared.factor.FactorRow.{FactorRow}
use Rattle.feed.specs.Openings.{OpensWith}
use Rattle.feed.specs.Readings.{ReadsBuilding, ReadsFactorRow}
use Rattle.factors.specs.Layers.{project_map}
use Rattle.factors.specs.Maps.{FactorMap}
use Rattle.listing.specs.declared.basis.BookingBasis.{BookingBasis}
use Rattle.feed.specs.FactorRows.{ReadsEachRow}

-- the factor rows that can be read from notes; refused ones are passed over
pub data KeepsFitFactorRows : List (List ℕ) → List FactorRow → Type 0 where
  none : KeepsFitFactorRows [] []
  row : {note : List ℕ} {notes : List (List ℕ)} {r : FactorRow} {rows : List FactorRow} → ReadsFactorRow note (Ok r)
      → KeepsFitFactorRows notes rows → KeepsFitFactorRows (note ∷ notes) (r ∷ rows)
  passed : {note : List ℕ} {notes : List (List ℕ)} {rows : List FactorRow} (f : Refusal) → ReadsFactorRow note (Err f)
      → KeepsFitFactorRows notes rows → KeepsFitFactorRows (note ∷ notes) rows

-- rows are those among the answers to reading notes as factor rows
abbrev pub KeepsFitAnswers : List (Result FactorRow Refusal) → List FactorRow → Type 0
KeepsFitAnswers answers rows = (notes : List (List ℕ)) → ReadsEachRow notes answers → KeepsFitFactorRows notes rows

-- a feed begins with its building and the factor rows straight after it, or, where its first note is no building, with
-- neither
pub data HasBasis (feed : List ℕ) : Option Building → List FactorRow → Type 0 where
  building : {rows : List FactorRow} {notes : List (List ℕ)} {left : List ℕ} (b : Building)
      → OpensWith feed b notes left → KeepsFitFactorRows notes rows → HasBasis feed (Some b) rows
  no_building : ((b : Building) → ReadsBuilding feed (Ok b) → ⊥) → HasBasis feed None []

-- the basis of booking: the building's life in years and the factors, if there is a building
pub data Basis : Type 0 where
  unbooked : Basis
  by : (y : ℕ) (factor_map : FactorMap) → Basis

abbrev pub basis_with : Option Building → List FactorRow → Basis
basis_with None rows = unbooked
basis_with (Some b) rows = by b.life (project_map rows)

-- the basis that the code reads from a feed
abbrev pub basis_of : BookingBasis → Basis
basis_of b = basis_with b.building (vec_items b.rows)
