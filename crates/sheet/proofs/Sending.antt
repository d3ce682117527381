-- The answer to a send, condition by condition.
use Rattle.std.proofs.Common.{◌≡◌, ℕ, List, ◌++◌, Some, None, Option, Ok, Err, Result, refl, subst}
use Rattle.refusals.specs.declared.refusal.Refusal.{Refusal}
use Rattle.refusals.specs.Refusals.{refusal_number, lack_number, AllHold, IsLeastFailing, GivesOrRefuses}
use Rattle.refusals.proofs.Deciding.{InOrder, least_on, least_stop, both_hold, absent_not_least, answered_hold, answered_least}
use Rattle.factors.specs.Maps.{FactorMap}
use Rattle.feed.specs.Frames.{first_note}
use Rattle.feed.specs.Readings.{reading_conditions}
use Rattle.feed.specs.SentNotes.{IsSent}
use Rattle.booking.specs.Booking.{booking_conditions}
use Rattle.domain.specs.declared.building.BuildingNumbers.{BuildingNumbers}
use Rattle.domain.specs.declared.entry.Entry.{Entry}
use Rattle.sheet.specs.RollNotes.{roll_note_of_note, entry_conditions, NamesLackOf}
use Rattle.sheet.specs.declared.book.Book.{Book}
use Rattle.sheet.specs.declared.place.Place.{Place}
use Rattle.sheet.specs.Places.{PlaceNumbers, place_numbers, book_places}
use Rattle.sheet.specs.Placing.{placing_conditions, places_with, Puts}
use Rattle.sheet.specs.States.{State, content_conditions, send_conditions, sent_place, Sends}

-- the conditions on a note's content are in the order of their numbers
content_in_order : (y : ℕ) (factor_map : FactorMap) (bs : List ℕ) (e : Option Entry) → InOrder (reading_conditions IsSent bs ++ entry_conditions y factor_map e)
unfolding booking_conditions
content_in_order y factor_map bs None = refl
content_in_order y factor_map bs (Some e) = refl

-- so are the conditions of a send
send_in_order : (y : ℕ) (factor_map : FactorMap) (bs : List ℕ) (e : Option Entry) (held : List PlaceNumbers) (new : PlaceNumbers) → InOrder ((reading_conditions IsSent bs ++ entry_conditions y factor_map e) ++ placing_conditions held new)
unfolding booking_conditions
send_in_order y factor_map bs None held new = refl
send_in_order y factor_map bs (Some e) held new = refl

pub in_order : (s : State) (bs : List ℕ) → InOrder (send_conditions s bs)
in_order s bs = send_in_order s.building.life s.factor_map bs (roll_note_of_note (first_note bs)).entry s.places (sent_place s bs)

-- a refusal other than `FactorLacking` (8) names no codes
unnamed : (y : ℕ) (factor_map : FactorMap) (e : Option Entry) (f : Refusal) → (refusal_number f ≡ lack_number → ⊥) → NamesLackOf y factor_map e f
unnamed y factor_map None f other = tt
unnamed y factor_map (Some e) f other = λ is. absurd (other is)

-- a note that cannot be read is unfit
pub unread : (y : ℕ) (factor_map : FactorMap) (bs : List ℕ) (f : Refusal) → IsLeastFailing (reading_conditions IsSent bs) (refusal_number f) → IsLeastFailing (content_conditions y factor_map bs) (refusal_number f)
unread y factor_map bs f = least_stop (reading_conditions IsSent bs) (entry_conditions y factor_map (roll_note_of_note (first_note bs)).entry) (refusal_number f) (content_in_order y factor_map bs (roll_note_of_note (first_note bs)).entry)

-- an unfit note is refused
pub unfit : {s : State} {bs : List ℕ} {f : Refusal} → IsLeastFailing (content_conditions s.building.life s.factor_map bs) (refusal_number f) → NamesLackOf s.building.life s.factor_map (roll_note_of_note (first_note bs)).entry f → Sends s bs (Err f) s
unfit {s} {bs} {f} least named = record {
  number = answered_least (send_conditions s bs) f (least_stop (content_conditions s.building.life s.factor_map bs) (placing_conditions s.places (sent_place s bs)) (refusal_number f) (in_order s bs) least);
  accepted = tt;
  refused = refl;
  named = named;
}

-- the state of a sheet, by its building, its source's map and its book
abbrev pub sheet_of : BuildingNumbers → FactorMap → Book → State
sheet_of b factor_map book = record { building = b; factor_map = factor_map; places = book_places book }

-- a fit note is answered as the book answers
pub fit : {b : BuildingNumbers} {factor_map : FactorMap} {bs : List ℕ} {new : Place} {before after : Book} {r : Result (Unit {0}) Refusal} → AllHold (content_conditions b.life factor_map bs) × (place_numbers new ≡ sent_place (sheet_of b factor_map before) bs) → Puts new before r after → Sends (sheet_of b factor_map before) bs r (sheet_of b factor_map after)
fit {b = b} {factor_map = factor_map} {bs = bs} {before = before} {after = after} {r = Ok u} place puts =
    let s = sheet_of b factor_map before in
    let put = subst (λ l. GivesOrRefuses (placing_conditions s.places l) (λ _. book_places after ≡ places_with l s.places) (Ok u)) place.1 puts.answer in
    record {
      number = answered_hold (send_conditions s bs) (both_hold (content_conditions b.life factor_map bs) (placing_conditions s.places (sent_place s bs)) place.0 put.0);
      accepted = λ i. record { building = b; factor_map = factor_map; places = put.1 i };
      refused = tt;
      named = tt;
    }
fit {b = b} {factor_map = factor_map} {bs = bs} {before = before} {r = Err f} place puts =
    let s = sheet_of b factor_map before in
    let asks = placing_conditions s.places (sent_place s bs) in
    let least : IsLeastFailing asks (refusal_number f) = subst (λ l. IsLeastFailing (placing_conditions s.places l) (refusal_number f)) place.1 puts.answer in
    record {
      number = answered_least (send_conditions s bs) f (least_on (content_conditions b.life factor_map bs) asks (refusal_number f) place.0 least);
      accepted = tt;
      refused = λ i. sheet_of b factor_map (puts.refused i);
      named = unnamed b.life factor_map (roll_note_of_note (first_note bs)).entry f (absent_not_least asks lack_number refl least);
    }
