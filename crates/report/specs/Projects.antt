-- Projects: the building that a feed opens with, and the project's own factors.
use Rattle.std.specs.Prelude.{◌≡◌, ℕ, ◌<◌, ◌≤◌, List, [], ◌∷◌, ◌++◌, length, Ok, Err, Result, Vec, vec_items}
use Rattle.refusals.specs.declared.refusal.Refusal.{Refusal}
use Rattle.refusals.specs.declared.refusal.Refusal.TheVariants.{TooManyFactorRows, FeedTooLong}
use Rattle.refusals.specs.Refusals.{Conditions, IsLeastFailing, AllHold, GivesOrRefuses, refusal_number}
use Rattle.domain.specs.declared.building.Building.{Building}
use Rattle.domain.specs.declared.building.BuildingNumbers.{BuildingNumbers}
use Rattle.domain.specs.declared.factor.FactorRow.{FactorRow}
use Rattle.domain.specs.Buildings.{numbers_of}
use Rattle.feed.specs.declared.kind.Kind.TheVariants.{Factor as FactorNote}
use Rattle.feed.specs.FactorFields.{IsFactorRow}
use Rattle.feed.specs.Frames.{first_note}
use Rattle.feed.specs.Openings.{OpensWith}
use Rattle.feed.specs.Readings.{ReadsBuilding, reading_conditions}
use Rattle.std.specs.declared.alloc.Global.{Global}
use Rattle.report.specs.declared.project.Project.{Project}
use Rattle.feed.specs.declared.opening.OpeningError.{OpeningError}
use Rattle.feed.specs.declared.opening.OpeningError.TheVariants.{Refused, OutOfMemory}
use Rattle.feed.specs.declared.input.TheConstants.{MAX_FEED_BYTES}

-- the condition on a feed before any of its notes is read
abbrev pub length_conditions : List ℕ → Conditions
length_conditions feed = (refusal_number FeedTooLong, length feed ≤ MAX_FEED_BYTES) ∷ []

-- the conditions of reading a note as a factor row, after n others
abbrev pub factor_row_conditions : ℕ → List ℕ → Conditions
factor_row_conditions n note =
    reading_conditions (λ kind. kind ≡ FactorNote) note ++ ((refusal_number TooManyFactorRows, n < 256) ∷ [])

-- reading it returns r
abbrev pub ReadsFactorRowAfter : ℕ → List ℕ → Result FactorRow Refusal → Type 0
ReadsFactorRowAfter n note r = GivesOrRefuses (factor_row_conditions n note) (IsFactorRow (first_note note)) r

-- a building, the project's own factors, and the bytes after them, which are sent
pub record ProjectParts : Type 0 where
  pub building : BuildingNumbers
  pub rows : List FactorRow
  pub notes : List ℕ

abbrev pub project_parts : BuildingNumbers → List FactorRow → List ℕ → ProjectParts
project_parts building rows notes = record { building = building; rows = rows; notes = notes }

-- reading notes as the rows after these, in order, gives all rows, or the refusal of the first that is refused
pub data TakesFactorRows : List FactorRow → List (List ℕ) → Result (List FactorRow) Refusal → Type 0 where
  all : {rows : List FactorRow} → TakesFactorRows rows [] (Ok rows)
  row : {rows : List FactorRow} {note : List ℕ} {notes : List (List ℕ)} {end : Result (List FactorRow) Refusal}
      (r : FactorRow) → ReadsFactorRowAfter (length rows) note (Ok r) → TakesFactorRows (rows ++ (r ∷ [])) notes end
      → TakesFactorRows rows (note ∷ notes) end
  refused : {rows : List FactorRow} {note : List ℕ} {notes : List (List ℕ)} {f : Refusal}
      → ReadsFactorRowAfter (length rows) note (Err f) → TakesFactorRows rows (note ∷ notes) (Err f)

-- a feed opens with a project, or is refused before anything is sent: it is too long, its first note is no building, or
-- a factor row after that is refused
pub data GivesProject (feed : List ℕ) : Result ProjectParts Refusal → Type 0 where
  too_long : {f : Refusal} → IsLeastFailing (length_conditions feed) (refusal_number f) → GivesProject feed (Err f)
  no_building : {f : Refusal} → AllHold (length_conditions feed) → ReadsBuilding feed (Err f) → GivesProject feed (Err f)
  row_refused : {b : Building} {notes : List (List ℕ)} {left : List ℕ} {f : Refusal} → AllHold (length_conditions feed)
      → OpensWith feed b notes left → TakesFactorRows [] notes (Err f) → GivesProject feed (Err f)
  project : {b : Building} {notes : List (List ℕ)} {left : List ℕ} {rows : List FactorRow}
      → AllHold (length_conditions feed) → OpensWith feed b notes left → TakesFactorRows [] notes (Ok rows)
      → GivesProject feed (Ok (project_parts (numbers_of b) rows left))

-- the parts of a project
abbrev pub parts_of_project : Project → ProjectParts
parts_of_project p = project_parts (numbers_of p.building) (vec_items p.rows) p.notes.now

-- gathering a project's rows from notes returns r; nothing is said where memory does not suffice
abbrev pub ReadsOwnFactorRows : List (List ℕ) → Result (Vec FactorRow Global) OpeningError → Type 0
ReadsOwnFactorRows notes (Ok rows) = TakesFactorRows [] notes (Ok (vec_items rows))
ReadsOwnFactorRows notes (Err (Refused f)) = TakesFactorRows [] notes (Err f)
ReadsOwnFactorRows notes (Err (OutOfMemory e)) = Unit {0}

-- reading a project returns r; nothing is said where memory does not suffice
abbrev pub ReadsProject : List ℕ → Result Project OpeningError → Type 0
ReadsProject feed (Ok p) = GivesProject feed (Ok (parts_of_project p))
ReadsProject feed (Err (Refused f)) = GivesProject feed (Err f)
ReadsProject feed (Err (OutOfMemory e)) = Unit {0}
