-- States: what a sheet holds, and how a send changes it.
use Rattle.std.specs.Prelude.{◌≡◌, ℕ, List, [], ◌++◌, length, IfOk, IfErr, Result}
use Rattle.refusals.specs.declared.refusal.Refusal.{Refusal}
use Rattle.refusals.specs.Refusals.{answer_number, Conditions, IsAnswerNumber, GivesOrRefuses}
use Rattle.factors.specs.Maps.{FactorMap}
use Rattle.domain.specs.declared.building.BuildingNumbers.{BuildingNumbers}
use Rattle.domain.specs.Buildings.{numbers_of}
use Rattle.feed.specs.Frames.{first_note}
use Rattle.feed.specs.Readings.{reading_conditions}
use Rattle.feed.specs.SentNotes.{IsSent}
use Rattle.sheet.specs.RollNotes.{roll_note_of_note, entry_conditions, NamesLackOf, note_place}
use Rattle.sheet.specs.declared.sheet.Sheet.{Sheet}
use Rattle.sheet.specs.declared.place.Place.{Place}
use Rattle.sheet.specs.Places.{PlaceNumbers, book_places, ChangesOnePlace, place_numbers}
use Rattle.sheet.specs.Indexes.{index_with}
use Rattle.sheet.specs.Placing.{placing_conditions, places_with}

-- a sheet's building, its source's map, and the places of its book
pub record State : Type 0 where
  pub building : BuildingNumbers
  pub factor_map : FactorMap
  pub places : List PlaceNumbers

-- the state of a sheet, by the map of its source
abbrev pub state_of : {S : Type 0} → (S → FactorMap) → Sheet S → State
state_of map_of s = record {
  building = numbers_of s.building;
  factor_map = map_of s.source;
  places = book_places s.book;
}

-- one place of the book is changed; the search for its number now begins at what was the next free place before, or
-- at an earlier one if it did already; and nothing else of the sheet is changed
pub record ChangesPlaceOnly {S : Type 0} (before after : Sheet S) : Type 0 where
  pub new : Place
  pub building : after.building ≡ before.building
  pub source : after.source ≡ before.source
  pub book : ChangesOnePlace new before.book after.book
  pub index : after.index ≡ index_with new.number (length (book_places before.book)) before.index

-- the state of a sheet that was just opened
abbrev pub new_state : BuildingNumbers → FactorMap → State
new_state building factor_map = record { building = building; factor_map = factor_map; places = [] }

-- the conditions on the content of sent bytes, in a building with a life of y years, at the factors of a map
abbrev pub content_conditions : ℕ → FactorMap → List ℕ → Conditions
content_conditions y factor_map bs =
    reading_conditions IsSent bs ++ entry_conditions y factor_map (roll_note_of_note (first_note bs)).entry

-- the place that the first note of the bytes takes
abbrev pub sent_place : State → List ℕ → PlaceNumbers
sent_place s bs = note_place s.building.life s.factor_map (roll_note_of_note (first_note bs))

-- the state with a place put in
abbrev pub state_with : State → PlaceNumbers → State
state_with s new = record { building = s.building; factor_map = s.factor_map; places = places_with new s.places }

-- the conditions of a send: first on the content of the bytes, then on what the book holds
abbrev pub send_conditions : State → List ℕ → Conditions
send_conditions s bs =
    content_conditions s.building.life s.factor_map bs ++ placing_conditions s.places (sent_place s bs)

-- r is the place that the first note of the bytes takes in the sheet s, or why that note is unfit; what the book holds
-- plays no part
abbrev pub GivesSentPlace : State → List ℕ → Result Place Refusal → Type 0
GivesSentPlace s bs r =
    GivesOrRefuses (content_conditions s.building.life s.factor_map bs) (λ p. place_numbers p ≡ sent_place s bs) r

-- a refusal for want of a factor names the code that the note asked for, and the one that is lacking
abbrev pub NamesSentLack : State → List ℕ → Refusal → Type 0
NamesSentLack s bs f = NamesLackOf s.building.life s.factor_map (roll_note_of_note (first_note bs)).entry f

-- sending bytes returns r, and changes the state from s to t. The answer's number is 0 where all conditions hold, and
-- the place is put in; else it is the smallest number of those that fail, and nothing is changed
pub record Sends (s : State) (bs : List ℕ) (r : Result (Unit {0}) Refusal) (t : State) : Type 0 where
  pub number : IsAnswerNumber (send_conditions s bs) (answer_number r)
  pub accepted : IfOk r (λ _. t ≡ state_with s (sent_place s bs))
  pub refused : IfErr r (λ _. t ≡ s)
  pub named : IfErr r (NamesSentLack s bs)
