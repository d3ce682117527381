-- Rolls: which entries count, by the bytes that were sent, the building's life and the source's map alone.
use Rattle.std.specs.Prelude.{◌≡◌, ℕ, ◌≤◌, if◌then◌else◌, List, [], ◌∷◌, ◌++◌, ◌==◌}
use Rattle.std.specs.List.{AllByRecursion, flat_map}
use Rattle.std.specs.Option.{option_to_list}
use Rattle.refusals.specs.Refusals.{SomeFails}
use Rattle.factors.specs.Maps.{FactorMap}
use Rattle.feed.specs.Frames.{first_note}
use Rattle.domain.specs.declared.entry.Entry.{Entry}
use Rattle.sheet.specs.RollNotes.{RollNote, roll_note_of_note}
use Rattle.sheet.specs.Placing.{HasRoom}
use Rattle.sheet.specs.States.{content_conditions}

-- the numbers, in the order in which they first came, with k added unless it is among them
abbrev pub numbers_with : ℕ → List ℕ → List ℕ
numbers_with k [] = k ∷ []
numbers_with k (j ∷ js) = if j == k then j ∷ js else j ∷ numbers_with k js

-- the numbers on a roll, each once, in the order in which they first came; a roll has its latest note first
abbrev pub numbers : List RollNote → List ℕ
numbers [] = []
numbers (n ∷ roll) = numbers_with n.number (numbers roll)

-- the roll's note of the first note of bytes
abbrev pub roll_note_of_bytes : List ℕ → RollNote
roll_note_of_bytes bs = roll_note_of_note (first_note bs)

module _ (y : ℕ) (factor_map : FactorMap) where
  -- a condition on the content of the bytes fails
  abbrev pub IsUnfit : List ℕ → Type 0
  IsUnfit bs = (n : ℕ) × SomeFails (content_conditions y factor_map bs) n

  -- the roll of sends, the latest first: each note is listed unless its content is unfit, or its number is new and 512
  -- are listed
  pub data IsRoll : List (List ℕ) → List RollNote → Type 0 where
    empty : IsRoll [] []
    unfit : {sends : List (List ℕ)} {roll : List RollNote} (bs : List ℕ) → IsRoll sends roll → IsUnfit bs
        → IsRoll (bs ∷ sends) roll
    without_room : {sends : List (List ℕ)} {roll : List RollNote} (bs : List ℕ) → IsRoll sends roll → (IsUnfit bs → ⊥)
        → (HasRoom (numbers roll) (roll_note_of_bytes bs).number → ⊥) → IsRoll (bs ∷ sends) roll
    on_roll : {sends : List (List ℕ)} {roll : List RollNote} (bs : List ℕ) → IsRoll sends roll → (IsUnfit bs → ⊥)
        → HasRoom (numbers roll) (roll_note_of_bytes bs).number → IsRoll (bs ∷ sends) (roll_note_of_bytes bs ∷ roll)

-- n decides for the number k: it is listed under k, no note under k has a higher revision, and no earlier one has the
-- same
pub record Decides (roll : List RollNote) (k : ℕ) (n : RollNote) : Type 0 where
  pub later : List RollNote
  pub earlier : List RollNote
  pub found : roll ≡ later ++ (n ∷ earlier)
  pub named : n.number ≡ k
  pub highest : AllByRecursion (λ m. m.number ≡ k → m.revision ≤ n.revision) roll
  pub first : AllByRecursion (λ m. m.number ≡ k → m.revision ≡ n.revision → ⊥) earlier

-- these notes decide for these numbers, one for each
pub data AllDecide (roll : List RollNote) : List ℕ → List RollNote → Type 0 where
  none : AllDecide roll [] []
  one : {k : ℕ} {ks : List ℕ} {n : RollNote} {ns : List RollNote} → Decides roll k n → AllDecide roll ks ns
      → AllDecide roll (k ∷ ks) (n ∷ ns)

-- the entries among notes
abbrev pub entries_of : List RollNote → List Entry
entries_of ns = flat_map (λ n. option_to_list n.entry) ns

-- these entries count by what was sent: they are those of the notes that decide for the numbers on the roll. There is
-- one such roll, and one note decides for each of its numbers
pub record AreCounted (y : ℕ) (factor_map : FactorMap) (sends : List (List ℕ)) (entries : List Entry) : Type 0 where
  pub roll : List RollNote
  pub is_roll : IsRoll y factor_map sends roll
  pub only_roll : (other : List RollNote) → IsRoll y factor_map sends other → other ≡ roll
  pub deciding : List RollNote
  pub decide : AllDecide roll (numbers roll) deciding
  pub only_one : (k : ℕ) (m n : RollNote) → Decides roll k m → Decides roll k n → m ≡ n
  pub counted : entries ≡ entries_of deciding
