-- The numbers of refusals, and which of several a call returns.
use Rattle.std.specs.Prelude.{◌≡◌, ℕ, ◌<◌, ◌⊎◌, List, [], ◌∷◌, Ok, Err, Result}
use Rattle.refusals.specs.declared.refusal.Refusal.{Refusal}
use Rattle.refusals.specs.declared.refusal.Refusal.TheVariants.{Unframed, UnexpectedKind, WrongLength, OutOfRange, UnknownRow, InvalidSpan, InvalidQuantity, FactorLacking, InvalidUnit, TooLarge, TooFewPlaces, Superseded, Contradicted, BookFull, TooManyFactorRows, FeedTooLong}

-- the number of a lack, the same for all codes
abbrev pub lack_number : ℕ
lack_number = 8

-- the number of a refusal
abbrev pub refusal_number : Refusal → ℕ
refusal_number Unframed = 1
refusal_number UnexpectedKind = 2
refusal_number WrongLength = 3
refusal_number OutOfRange = 4
refusal_number UnknownRow = 5
refusal_number InvalidSpan = 6
refusal_number InvalidQuantity = 7
refusal_number (FactorLacking l) = lack_number
refusal_number InvalidUnit = 9
refusal_number TooLarge = 10
refusal_number TooFewPlaces = 11
refusal_number Superseded = 21
refusal_number Contradicted = 22
refusal_number BookFull = 23
refusal_number TooManyFactorRows = 24
refusal_number FeedTooLong = 25

-- the codes that a refusal names: for a lack, the one that was asked for and the one that is lacking
abbrev pub refusal_codes : Refusal → List ℕ
refusal_codes (FactorLacking l) = l.asked ∷ l.lacking ∷ []
refusal_codes f = []

-- the conditions of a call, each with the number of the refusal where it fails
abbrev pub Conditions : Type 1
Conditions = List (ℕ × Type 0)

-- all of the conditions hold
abbrev pub AllHold : Conditions → Type 0
AllHold [] = Unit {0}
AllHold (c ∷ cs) = c.1 × AllHold cs

-- some condition with the number n fails
abbrev pub SomeFails : Conditions → ℕ → Type 0
SomeFails [] n = ⊥
SomeFails (c ∷ cs) n = ((n ≡ c.0) × (c.1 → ⊥)) ⊎ SomeFails cs n

-- n is the smallest number of the conditions that fail
abbrev pub IsLeastFailing : Conditions → ℕ → Type 0
IsLeastFailing cs n = SomeFails cs n × ((m : ℕ) → m < n → SomeFails cs m → ⊥)

-- the number of a result: 0 for a value, and otherwise that of the refusal
abbrev pub answer_number : {X : Type 0} → Result X Refusal → ℕ
answer_number (Ok x) = 0
answer_number (Err f) = refusal_number f

-- n is the number of the result: 0 where all conditions hold, and otherwise the smallest number of one that fails
pub record IsAnswerNumber (cs : Conditions) (n : ℕ) : Type 0 where
  pub kept : n ≡ 0 → AllHold cs
  pub least : 0 < n → IsLeastFailing cs n

-- the result is a value of which Q holds where all conditions hold, and otherwise the refusal with the smallest number
-- of one that fails
abbrev pub GivesOrRefuses : {X : Type 0} → Conditions → (X → Type 0) → Result X Refusal → Type 0
GivesOrRefuses cs Q (Ok x) = AllHold cs × Q x
GivesOrRefuses cs Q (Err f) = IsLeastFailing cs (refusal_number f)

-- the result is a value of which Q holds where P holds, and otherwise the refusal f
abbrev pub GivesOrRefusesBy : {X : Type 0} → Type 0 → Refusal → (X → Type 0) → Result X Refusal → Type 0
GivesOrRefusesBy P f Q (Ok x) = P × Q x
GivesOrRefusesBy P f Q (Err e) = (e ≡ f) × (P → ⊥)

-- r is the value whose numbers are n, where these are valid, and else the refusal f
abbrev pub Decodes : {N X : Type 0} → (N → Type 0) → Refusal → (X → N) → N → Result X Refusal → Type 0
Decodes IsValid f numbers n r = GivesOrRefusesBy (IsValid n) f (λ x. numbers x ≡ n) r
