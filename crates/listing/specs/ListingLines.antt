-- The lines of a listing.
use Rattle.std.specs.Prelude.{◌≡◌, ℕ, List, [], ◌++◌, length, Some, None, Ok, Err, codes, decimal, Option, Result}
use Rattle.domain.specs.declared.entry.Entry.{Entry as BookedEntry}
use Rattle.booking.specs.Booking.{Books}
use Rattle.booking.specs.LineTexts.{line_text}
use Rattle.domain.specs.FieldTexts.{spaced_field}
use Rattle.feed.specs.declared.kind.Kind.{Kind}
use Rattle.feed.specs.declared.note.Note.{Note}
use Rattle.feed.specs.declared.note.Note.TheVariants.{Building, Factor, Sent}
use Rattle.feed.specs.declared.reader.Part.{Part}
use Rattle.feed.specs.Feeds.{part_bytes}
use Rattle.feed.specs.Frames.{IsFramed, first_note, note_kind}
use Rattle.feed.specs.Kinds.{kind_of, kind_word}
use Rattle.feed.specs.Notes.{IsAnyKind, Says}
use Rattle.feed.specs.Readings.{Reads}
use Rattle.feed.specs.SentNotes.{entry_of_content}
use Rattle.feed.specs.NoteTexts.{note_text}
use Rattle.refusals.specs.declared.refusal.Refusal.{Refusal}
use Rattle.refusals.specs.RefusalTexts.{refusal_text}
use Rattle.listing.specs.declared.outcome.Outcome.{Outcome}
use Rattle.listing.specs.declared.outcome.Outcome.TheVariants.{Booked, Refused, Unbooked}
use Rattle.listing.specs.Bases.{Basis, unbooked, by}

-- the word of a kind, or `unknown`
abbrev pub kind_word_or_unknown : Option Kind → List ℕ
kind_word_or_unknown (Some kind) = kind_word kind
kind_word_or_unknown None = codes "unknown"

-- the text of a refused note: its kind, its length and the refusal
abbrev pub refused_note_text : ℕ → ℕ → Refusal → List ℕ
refused_note_text k n f =
    kind_word_or_unknown (kind_of k)
    ++ (spaced_field (codes "kind", k) ++ (spaced_field (codes "length", n) ++ (codes " " ++ refusal_text f)))

-- the text of the given number of bytes, which frame no note
abbrev pub unframed_text : ℕ → Refusal → List ℕ
unframed_text left f = codes "unframed" ++ (spaced_field (codes "left", left) ++ (codes " " ++ refusal_text f))

-- s is the text of bytes that are refused
pub record IsRefusedText (bs : List ℕ) (f : Refusal) (s : List ℕ) : Type 0 where
  pub note : IsFramed bs → s ≡ refused_note_text (note_kind (first_note bs)) (length (first_note bs)) f
  pub unframed : (IsFramed bs → ⊥) → s ≡ unframed_text (length bs) f

-- o is the outcome of an entry: its booked line, or its refusal; it is not booked where there is no building
abbrev pub IsOutcome : Basis → BookedEntry → Outcome → Type 0
IsOutcome unbooked e o = o ≡ Unbooked
IsOutcome (by y factor_map) e (Booked line) = Books y factor_map e (Ok line)
IsOutcome (by y factor_map) e (Refused f) = Books y factor_map e (Err f)
IsOutcome (by y factor_map) e Unbooked = ⊥

-- the text of an outcome
abbrev pub outcome_text : Outcome → List ℕ
outcome_text (Booked line) = line_text line
outcome_text (Refused f) = refusal_text f
outcome_text Unbooked = codes "unbooked"

-- the outcome of a note: an entry has one, and no other note has
abbrev pub IsNoteOutcome : Basis → Option BookedEntry → Option Outcome → Type 0
IsNoteOutcome a None None = Unit {0}
IsNoteOutcome a None (Some o) = ⊥
IsNoteOutcome a (Some e) None = ⊥
IsNoteOutcome a (Some e) (Some o) = IsOutcome a e o

-- the text of that, after a space
abbrev pub outcome_suffix : Option Outcome → List ℕ
outcome_suffix None = []
outcome_suffix (Some o) = codes " " ++ outcome_text o

-- the entry of a note, if it is one
abbrev pub entry_of : Note → Option BookedEntry
entry_of (Building b) = None
entry_of (Factor row) = None
entry_of (Sent s) = entry_of_content s.content

-- s is the text of a note: its fields, and its outcome if it is an entry
pub record IsNoteText (a : Basis) (n : Note) (s : List ℕ) : Type 0 where
  pub outcome : Option Outcome
  pub books : IsNoteOutcome a (entry_of n) outcome
  pub text : s ≡ note_text n ++ outcome_suffix outcome

-- s is the text of bytes by the answer of reading them: that of their first note, or that of their refusal
abbrev pub IsAnswerText : Basis → List ℕ → Result Note Refusal → List ℕ → Type 0
IsAnswerText a bs (Ok n) s = IsNoteText a n s
IsAnswerText a bs (Err f) s = IsRefusedText bs f s

-- s is the text of bytes
pub record IsStatement (a : Basis) (bs s : List ℕ) : Type 0 where
  pub answer : Result Note Refusal
  pub read : Reads IsAnyKind Says bs answer
  pub tells : IsAnswerText a bs answer s

-- the line that says s of the bytes at the place k, with `at` bytes of the feed before them
abbrev pub placed_line : ℕ → ℕ → List ℕ → List ℕ
placed_line k at s = decimal k ++ (spaced_field (codes "at", at) ++ (codes " " ++ (s ++ codes "\n")))

-- the line of the bytes at the place k, with `at` bytes of the feed before them
pub record IsLine (a : Basis) (k at : ℕ) (bs line : List ℕ) : Type 0 where
  pub statement : List ℕ
  pub tells : IsStatement a bs statement
  pub text : line ≡ placed_line k at statement

-- the line of a part of a feed
abbrev pub IsPartLine : Basis → Part → List ℕ → Type 0
IsPartLine a p line = IsLine a p.place p.start (part_bytes p) line
