-- The kinds of notes: their numbers, their lengths and their words.
use Rattle.std.specs.Prelude.{◌≡◌, ℕ, if◌then◌else◌, ◌==◌, List, [], ◌∷◌, codes, Option, Some, None, IsSome, Result}
use Rattle.feed.specs.declared.kind.Kind.{Kind}
use Rattle.feed.specs.declared.kind.Kind.TheVariants.{Building, Factor, Counted, Measured, Withdrawal}
use Rattle.feed.specs.Frames.{note_kind}
use Rattle.refusals.specs.declared.refusal.Refusal.{Refusal}
use Rattle.refusals.specs.declared.refusal.Refusal.TheVariants.{UnexpectedKind}
use Rattle.refusals.specs.Refusals.{GivesOrRefusesBy}

abbrev pub kind_number : Kind → ℕ
kind_number Building = 1
kind_number Factor = 2
kind_number Counted = 3
kind_number Measured = 4
kind_number Withdrawal = 5

-- the length of a note of each kind, in bytes
abbrev pub note_length : Kind → ℕ
note_length Building = 18
note_length Factor = 14
note_length Counted = 28
note_length Measured = 28
note_length Withdrawal = 12

-- the word for a kind
abbrev pub kind_word : Kind → List ℕ
kind_word Building = codes "building"
kind_word Factor = codes "factor"
kind_word Counted = codes "entry"
kind_word Measured = codes "measured"
kind_word Withdrawal = codes "withdrawal"

-- all kinds
abbrev pub kinds : List Kind
kinds = Building ∷ Factor ∷ Counted ∷ Measured ∷ Withdrawal ∷ []

-- the kind in the list that has the number n, if there is one
abbrev pub kind_among : ℕ → List Kind → Option Kind
kind_among n [] = None
kind_among n (k ∷ ks) = if kind_number k == n then Some k else kind_among n ks

-- the kind that has the number n, if there is one
abbrev pub kind_of : ℕ → Option Kind
kind_of n = kind_among n kinds

-- the kind of a note, if its number is that of a kind
abbrev pub kind_of_note : List ℕ → Option Kind
kind_of_note note = kind_of (note_kind note)

-- the note is of this kind
abbrev pub IsOfKind : Kind → List ℕ → Type 0
IsOfKind kind note = kind_of_note note ≡ Some kind

-- r is the kind that has the number n, and where there is none the refusal of an unwanted kind
abbrev pub DecodesKind : ℕ → Result Kind Refusal → Type 0
DecodesKind n r = GivesOrRefusesBy (IsSome (kind_of n)) UnexpectedKind (λ kind. kind_of n ≡ Some kind) r
