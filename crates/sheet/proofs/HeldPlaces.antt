-- The state of a sheet after its sends: its book holds the places of the notes that decide.
use Rattle.std.proofs.Common.{◌≡◌, ℕ, List, [], ◌∷◌, ◌++◌, map, Ok, Err, Result, inl, inr, ⊎_elim, sym, refl, ◌∙◌, subst}
use Rattle.std.specs.List.{AllByRecursion}
use Rattle.refusals.specs.declared.refusal.Refusal.{Refusal}
use Rattle.refusals.specs.declared.refusal.Refusal.TheVariants.{Superseded, Contradicted, BookFull}
use Rattle.refusals.specs.Refusals.{refusal_number, Conditions, AllHold, SomeFails, IsLeastFailing}
use Rattle.refusals.proofs.Deciding.{none_fails, left_hold, right_hold, hold_at, fails_either, first_hold, least_answered}
use Rattle.factors.specs.Maps.{FactorMap}
use Rattle.domain.specs.declared.building.BuildingNumbers.{BuildingNumbers}
use Rattle.sheet.specs.RollNotes.{RollNote, entry_conditions, note_place}
use Rattle.sheet.specs.Places.{PlaceNumbers}
use Rattle.sheet.specs.Placing.{place_under, IsNotSuperseded, Agrees, HasRoom, IsAmong, placing_conditions}
use Rattle.sheet.specs.Rolls.{numbers, roll_note_of_bytes, IsUnfit, IsRoll, empty, unfit, without_room, on_roll}
use Rattle.sheet.specs.States.{State, new_state, content_conditions, send_conditions, state_with, Sends}
use Rattle.feed.specs.Readings.{reading_conditions}
use Rattle.feed.specs.SentNotes.{IsSent}
use Rattle.sheet.proofs.Deciders.{decide, enters, all_enter, names_decide}
use Rattle.sheet.proofs.ExactSums.{Sound}
use Rattle.sheet.proofs.RollSteps.{places_numbers, places_enter, stays}
use Rattle.sheet.proofs.Sending.{in_order}

module _ (b : BuildingNumbers) (factor_map : FactorMap) where
  abbrev y : ℕ
  y = b.life

  -- the state in which the book holds the places of the notes that decide on a roll
  abbrev pub holding : List RollNote → State
  holding roll = record { building = b; factor_map = factor_map; places = map (note_place y factor_map) (decide roll) }

  -- the state after sends
  pub record Standing (sends : List (List ℕ)) (s : State) : Type 0 where
    pub roll : List RollNote
    pub is_roll : IsRoll y factor_map sends roll
    pub holds : s ≡ holding roll
    pub sound : AllByRecursion (Sound y factor_map) (decide roll)

  pub nothing_sent : Standing [] (new_state b factor_map)
  nothing_sent = record { roll = []; is_roll = empty; holds = refl; sound = tt }

  -- such a state, and bytes that are sent next
  module _ {sends : List (List ℕ)} {roll : List RollNote} (is_roll : IsRoll y factor_map sends roll) (sound : AllByRecursion (Sound y factor_map) (decide roll)) (bs : List ℕ) where
    abbrev ns : List RollNote
    ns = decide roll

    abbrev n : RollNote
    n = roll_note_of_bytes bs

    abbrev held : List PlaceNumbers
    held = map (note_place y factor_map) ns

    abbrev new : PlaceNumbers
    new = note_place y factor_map n

    abbrev conditions_of_content : Conditions
    conditions_of_content = content_conditions y factor_map bs

    abbrev book_conditions : Conditions
    book_conditions = placing_conditions held new

    -- the numbers in the book are those on the roll
    same_numbers : map (λ t. t.number) held ≡ numbers roll
    same_numbers = places_numbers y factor_map ns ∙ names_decide roll

    accepted : AllHold (conditions_of_content ++ book_conditions) → Standing (bs ∷ sends) (state_with (holding roll) new)
    accepted kept =
        let asks = left_hold conditions_of_content book_conditions kept in
        let places = right_hold conditions_of_content book_conditions kept in
        let ahead = hold_at (refusal_number Superseded) book_conditions places in
        let agrees = hold_at (refusal_number Contradicted) book_conditions places in
        record {
          roll = n ∷ roll;
          is_roll = on_roll bs is_roll (λ u. none_fails conditions_of_content asks u.0 u.1) (subst (λ ks. HasRoom ks n.number) same_numbers (hold_at (refusal_number BookFull) book_conditions places));
          holds = λ i. record { building = b; factor_map = factor_map; places = places_enter y factor_map (enters n ns) ahead agrees i };
          sound = all_enter (Sound y factor_map) (enters n ns) (right_hold (reading_conditions IsSent bs) (entry_conditions y factor_map n.entry) asks) sound;
        }

    -- a place that is behind that of its number, or contradicts it
    behind : (IsUnfit y factor_map bs → ⊥) → (IsNotSuperseded new (place_under n.number held) → Agrees new (place_under n.number held) → ⊥) → Standing (bs ∷ sends) (holding roll)
    behind fit h =
        let s = stays y factor_map (enters n ns) h in
        record {
          roll = n ∷ roll;
          is_roll = on_roll bs is_roll fit (inl (subst (IsAmong n.number) (names_decide roll) s.0));
          holds = λ i. record { building = b; factor_map = factor_map; places = map (note_place y factor_map) (sym s.1 i) };
          sound = subst (AllByRecursion (Sound y factor_map)) (sym s.1) sound;
        }

    -- a place for which there is no room
    no_room : (IsUnfit y factor_map bs → ⊥) → (HasRoom (map (λ t. t.number) held) new.number → ⊥) → Standing (bs ∷ sends) (holding roll)
    no_room fit full = record { roll = roll; is_roll = without_room bs is_roll fit (λ room. full (subst (λ ks. HasRoom ks n.number) (sym same_numbers) room)); holds = refl; sound = sound }

    -- a condition of the book fails, by each of its conditions
    without_room_for : {k : ℕ} → (IsUnfit y factor_map bs → ⊥) → SomeFails book_conditions k → Standing (bs ∷ sends) (holding roll)
    without_room_for fit (inl superseded) = behind fit (λ ahead agrees. superseded.1 ahead)
    without_room_for fit (inr (inl contradicted)) = behind fit (λ ahead agrees. contradicted.1 agrees)
    without_room_for fit (inr (inr (inl full))) = no_room fit full.1
    without_room_for fit (inr (inr (inr nothing))) = absurd nothing

    refused : (k : ℕ) → IsLeastFailing (conditions_of_content ++ book_conditions) k → Standing (bs ∷ sends) (holding roll)
    refused k least =
        ⊎_elim (λ u. record { roll = roll; is_roll = unfit bs is_roll (k, u); holds = refl; sound = sound })
        (λ p. without_room_for (λ u. first_hold conditions_of_content book_conditions k (in_order (holding roll) bs) least p u.0 u.1) p)
        (fails_either conditions_of_content book_conditions k least.0)

    one_send : {r : Result (Unit {0}) Refusal} {t : State} → Sends (holding roll) bs r t → Standing (bs ∷ sends) t
    one_send {r = Ok u} step = subst (Standing (bs ∷ sends)) (sym step.accepted) (accepted (step.number.kept refl))
    one_send {r = Err f} step = subst (Standing (bs ∷ sends)) (sym step.refused) (refused (refusal_number f) (least_answered (send_conditions (holding roll) bs) f step.number))

  pub sent_once : {sends : List (List ℕ)} {s t : State} {bs : List ℕ} {r : Result (Unit {0}) Refusal} → Standing sends s → Sends s bs r t → Standing (bs ∷ sends) t
  sent_once {t = t} {bs = bs} {r = r} h step = one_send h.is_roll h.sound bs (subst (λ x. Sends x bs r t) h.holds step)
