-- A number that is withdrawn at revision 2, and entries with that number at other revisions.
use Rattle.std.specs.Prelude.{◌≡◌, ℕ, List, [], ◌∷◌, Some, None, Ok, Result}
use Rattle.std.specs.Result.{IsErrAnd}
use Rattle.refusals.specs.declared.refusal.Refusal.{Refusal}
use Rattle.refusals.specs.Refusals.{refusal_number, AllHold}
use Rattle.factors.specs.Maps.{FactorMap}
use Rattle.domain.specs.declared.building.BuildingNumbers.{BuildingNumbers}
use Rattle.domain.specs.declared.entry.Entry.{Entry}
use Rattle.sheet.specs.RollNotes.{RollNote}
use Rattle.sheet.specs.Rolls.{roll_note_of_bytes, AreCounted}
use Rattle.sheet.specs.States.{State, new_state, content_conditions, Sends}

abbrev pub withdrawal : RollNote
withdrawal = record { number = 1; revision = 2; entry = None }

-- an entry with the same number
abbrev pub entry_at : (revision : ℕ) → Entry → RollNote
entry_at revision e = record { number = 1; revision = revision; entry = Some e }

-- the bytes send the note, and its content is fit in a building with a life of y years, at the factors of a map
pub record IsSentAs (y : ℕ) (factor_map : FactorMap) (note : RollNote) (bs : List ℕ) : Type 0 where
  pub fit : AllHold (content_conditions y factor_map bs)
  pub says : roll_note_of_bytes bs ≡ note

-- a sheet that was just opened lets the withdrawal in, and then refuses any fit entry at this revision by the number n
abbrev pub IsRefusedBy : (revision n : ℕ) → Type 0
IsRefusedBy revision n =
    (b : BuildingNumbers) (factor_map : FactorMap) (e : Entry) (gone late : List ℕ) (s t : State)
    (r : Result (Unit {0}) Refusal)
    → IsSentAs b.life factor_map withdrawal gone → Sends (new_state b factor_map) gone (Ok tt) s
    → IsSentAs b.life factor_map (entry_at revision e) late → Sends s late r t
    → IsErrAnd r (λ f. refusal_number f ≡ n)

-- after the withdrawal and a late entry at this revision, nothing counts
abbrev pub NoneCounts : (revision : ℕ) → Type 0
NoneCounts revision =
    (y : ℕ) (factor_map : FactorMap) (e : Entry) (gone late : List ℕ)
    → IsSentAs y factor_map withdrawal gone → IsSentAs y factor_map (entry_at revision e) late
    → AreCounted y factor_map (late ∷ (gone ∷ [])) []

-- after those two, a third note, an entry at this revision, counts
abbrev pub CountsAt : (late revision : ℕ) → Type 0
CountsAt l revision =
    (y : ℕ) (factor_map : FactorMap) (e new : Entry) (gone late next : List ℕ)
    → IsSentAs y factor_map withdrawal gone → IsSentAs y factor_map (entry_at l e) late
    → IsSentAs y factor_map (entry_at revision new) next
    → AreCounted y factor_map (next ∷ (late ∷ (gone ∷ []))) (new ∷ [])
