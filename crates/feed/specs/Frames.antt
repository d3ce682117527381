-- The frame of a note: its length and its kind.
use Rattle.std.specs.Prelude.{◌≡◌, ℕ, ◌≤◌, List, length, take, drop}
use Rattle.feed.specs.declared.frame.NoteHead.{NoteHead}
use Rattle.feed.specs.Fields.{field}

-- the bytes begin with a whole note: there are at least four, and the length that the first two give is at least 4 and
-- at most the number of bytes
pub record IsFramed (bs : List ℕ) : Type 0 where
  pub head : 4 ≤ length bs
  pub least : 4 ≤ field bs 0 2
  pub whole : field bs 0 2 ≤ length bs

-- the note that framed bytes begin with
unfoldable pub first_note : List ℕ → List ℕ
first_note bs = take (field bs 0 2) bs

-- what comes after the first note
abbrev pub rest_after_first : List ℕ → List ℕ
rest_after_first bs = drop (length (first_note bs)) bs

-- the bytes are exactly one note
pub record IsOneNote (note : List ℕ) : Type 0 where
  pub head : 4 ≤ length note
  pub sized : field note 0 2 ≡ length note

-- the number of the kind of a note
abbrev pub note_kind : List ℕ → ℕ
note_kind note = field note 2 2

-- head has the length and the kind of the note
abbrev pub IsNoteHead : List ℕ → NoteHead → Type 0
IsNoteHead note head = (head.length ≡ length note) × (head.kind ≡ note_kind note)
