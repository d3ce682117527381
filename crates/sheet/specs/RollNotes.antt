-- Notes as a sheet takes them: on its roll, and in its places.
use Rattle.std.specs.Prelude.{ℕ, List, [], Some, None, Option, option_map, ◌≡◌, Result}
use Rattle.refusals.specs.declared.refusal.Refusal.{Refusal}
use Rattle.refusals.specs.Refusals.{Conditions, GivesOrRefuses}
use Rattle.factors.specs.Maps.{FactorMap}
use Rattle.feed.specs.declared.sent_note.SentNote.{SentNote}
use Rattle.feed.specs.SentNotes.{entry_of_content, sent_note_of}
use Rattle.domain.specs.declared.entry.Entry.{Entry}
use Rattle.booking.specs.Booking.{NamesLack, booking_conditions, booked_line}
use Rattle.sheet.specs.Places.{PlaceNumbers, place_numbers}
use Rattle.sheet.specs.declared.place.Place.{Place}

-- a note's number and revision, and its entry if it has one
pub record RollNote : Type 0 where
  pub number : ℕ
  pub revision : ℕ
  pub entry : Option Entry

-- the roll's note of a note that was read
abbrev pub roll_note_of_sent : SentNote → RollNote
roll_note_of_sent s = record { number = s.number; revision = s.revision; entry = entry_of_content s.content }

-- the roll's note of the bytes of a note
abbrev pub roll_note_of_note : List ℕ → RollNote
roll_note_of_note note = roll_note_of_sent (sent_note_of note)

-- in a building with a life of y years, at the factors of a map
module _ (y : ℕ) (factor_map : FactorMap) where
  -- the conditions of booking; a withdrawal has none
  abbrev pub entry_conditions : Option Entry → Conditions
  entry_conditions None = []
  entry_conditions (Some e) = booking_conditions y factor_map e

  -- a refusal that a factor is lacking names the code asked for and the one that is lacking
  abbrev pub NamesLackOf : Option Entry → Refusal → Type 0
  NamesLackOf None f = Unit {0}
  NamesLackOf (Some e) f = NamesLack e.head.code (factor_map e.head.code) f

  -- the place that a note takes
  abbrev pub note_place : RollNote → PlaceNumbers
  note_place n = record {
    number = n.number;
    revision = n.revision;
    line = option_map (booked_line y factor_map) n.entry;
  }

  -- r is the place that a note takes, or why its entry is unfit
  abbrev pub GivesPlace : RollNote → Result Place Refusal → Type 0
  GivesPlace n r = GivesOrRefuses (entry_conditions n.entry) (λ p. place_numbers p ≡ note_place n) r
