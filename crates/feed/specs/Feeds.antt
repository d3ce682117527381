-- Reading a feed from its beginning: what a reader hands out, and the law that all its calls keep.
use Rattle.std.specs.Prelude.{◌≡◌, ℕ, ◌+◌, ◌<◌, List, [], ◌∷◌, ◌++◌, length, drop, Some, None, Option, Ok, Err, Result, All}
use Rattle.std.specs.List.{flat_map}
use Rattle.feed.specs.declared.reader.Part.{Part}
use Rattle.feed.specs.declared.reader.Reader.{Reader}
use Rattle.feed.specs.Frames.{IsFramed, IsOneNote, first_note}
use Rattle.feed.specs.FactorRows.{StartsWithFactorRow}
use Rattle.refusals.specs.declared.refusal.Refusal.{Refusal}
use Rattle.refusals.specs.Refusals.{refusal_number}
use Rattle.refusals.specs.declared.refusal.Refusal.TheVariants.{Unframed}

-- the result of a call: the next note, none where the feed has ended, or why no note can be read from what is left
abbrev pub ReaderAnswer : Type 0
ReaderAnswer = Result (Option Part) Refusal

abbrev pub part_bytes : Part → List ℕ
part_bytes p = p.bytes.now

-- the bytes that a reader has not handed out yet
abbrev pub rest_of : Reader → List ℕ
rest_of r = drop r.start r.feed.now

-- r is a reader of the feed that has handed out nothing
pub record IsNewReader (feed : List ℕ) (r : Reader) : Type 0 where
  pub over : r.feed.now ≡ feed
  pub bytes : r.start ≡ 0
  pub notes : r.handed_out ≡ 0

-- p is what the reader r has not handed out yet, as a part of the feed
pub record IsRest (r : Reader) (p : Part) : Type 0 where
  pub place : p.place ≡ r.handed_out + 1
  pub start : p.start ≡ r.start
  pub bytes : part_bytes p ≡ rest_of r

-- the reader r hands out the next note p, and is t afterwards
pub record HandsOut (r : Reader) (p : Part) (t : Reader) : Type 0 where
  pub framed : IsFramed (rest_of r)
  pub note : part_bytes p ≡ first_note (rest_of r)
  pub place : p.place ≡ r.handed_out + 1
  pub start : p.start ≡ r.start
  pub over : t.feed.now ≡ r.feed.now
  pub bytes : t.start ≡ r.start + length (part_bytes p)
  pub notes : t.handed_out ≡ r.handed_out + 1

-- the reader r hands out nothing, and is unchanged as t
pub record Stays (r t : Reader) : Type 0 where
  pub over : t.feed.now ≡ r.feed.now
  pub bytes : t.start ≡ r.start
  pub notes : t.handed_out ≡ r.handed_out

-- the result is no note, and is right about what is left: no byte is left, or the bytes left do not begin with a note
abbrev pub IsEndAnswer : ReaderAnswer → List ℕ → Type 0
IsEndAnswer (Ok (Some p)) rest = ⊥
IsEndAnswer (Ok None) rest = rest ≡ []
IsEndAnswer (Err f) rest = (0 < length rest) × (IsFramed rest → ⊥) × (refusal_number f ≡ refusal_number Unframed)

-- a call of `next` of the reader r has this result, and leaves it as t
abbrev pub AnswersNext : Reader → ReaderAnswer → Reader → Type 0
AnswersNext r (Ok (Some p)) t = HandsOut r p t
AnswersNext r (Ok None) t = IsEndAnswer (Ok None) (rest_of r) × Stays r t
AnswersNext r (Err f) t = IsEndAnswer (Err f) (rest_of r) × Stays r t

-- the reader r hands out the next note, if what is left begins with one, and is t afterwards
abbrev pub HandsOutNote : Reader → Option Part → Reader → Type 0
HandsOutNote r (Some p) t = HandsOut r p t
HandsOutNote r None t = Stays r t × (IsFramed (rest_of t) → ⊥)

-- the reader r hands out the next note, if it is of the kind of factor rows, and is t afterwards
abbrev pub HandsOutFactorRow : Reader → Option Part → Reader → Type 0
HandsOutFactorRow r (Some p) t = StartsWithFactorRow (rest_of r) × HandsOut r p t
HandsOutFactorRow r None t = (StartsWithFactorRow (rest_of r) → ⊥) × (t ≡ r)

-- the calls of one reader of the feed since it was made: their results, the latest first, and the reader after them
pub data ReaderHistory (feed : List ℕ) : List ReaderAnswer → Reader → Type 0 where
  opened : {r : Reader} → IsNewReader feed r → ReaderHistory feed [] r
  called : {before : List ReaderAnswer} {r t : Reader} {a : ReaderAnswer} → ReaderHistory feed before r
      → AnswersNext r a t → ReaderHistory feed (a ∷ before) t

-- the notes among the results, in the order in which they were handed out
abbrev pub handed_parts : List ReaderAnswer → List Part
handed_parts [] = []
handed_parts (Ok (Some p) ∷ before) = handed_parts before ++ (p ∷ [])
handed_parts (Ok None ∷ before) = handed_parts before
handed_parts (Err f ∷ before) = handed_parts before

-- the places count up from k; the first part starts at `at`, and each other one where the part before it ends
abbrev pub AreConsecutive : ℕ → ℕ → List Part → Type 0
AreConsecutive k at [] = Unit {0}
AreConsecutive k at (p ∷ ps) = (p.place ≡ k) × (p.start ≡ at) × AreConsecutive (k + 1) (at + length (part_bytes p)) ps

-- P holds if the result is no note
abbrev pub UnlessNote : ReaderAnswer → Type 0 → Type 0
UnlessNote (Ok (Some p)) P = Unit {0}
UnlessNote (Ok None) P = P
UnlessNote (Err f) P = P

-- a result that is no note is returned again by every later call
abbrev pub IsRepeated : List ReaderAnswer → Type 0
IsRepeated [] = Unit {0}
IsRepeated (a ∷ []) = Unit {0}
IsRepeated (a ∷ b ∷ before) = UnlessNote b (a ≡ b) × IsRepeated (b ∷ before)

-- the last result, if it is no note, is right about what is left
abbrev pub EndsTruly : List ReaderAnswer → List ℕ → Type 0
EndsTruly [] rest = Unit {0}
EndsTruly (a ∷ before) rest = UnlessNote a (IsEndAnswer a rest)

-- the law of a reader: the notes it handed out, followed by what is left, are the feed; each is one note, in its place;
-- and once a result is no note, it is right and stays
pub record IsLawfulReader (feed : List ℕ) (answers : List ReaderAnswer) (rest : List ℕ) : Type 0 where
  pub whole : flat_map part_bytes (handed_parts answers) ++ rest ≡ feed
  pub notes : All (λ p. IsOneNote (part_bytes p)) (handed_parts answers)
  pub places : AreConsecutive 1 0 (handed_parts answers)
  pub again : IsRepeated answers
  pub ends : EndsTruly answers rest

-- a reader that was r gives the answer a and is t then: with any calls that led to r, this call keeps the law
abbrev pub KeepsReaderLaw : Reader → ReaderAnswer → Reader → Type 0
KeepsReaderLaw r a t =
    (feed : List ℕ) (before : List ReaderAnswer) → ReaderHistory feed before r
    → IsLawfulReader feed (a ∷ before) (rest_of t)
