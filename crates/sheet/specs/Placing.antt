-- Placing: which places a book takes in, and where.
use Rattle.std.specs.Prelude.{◌≡◌, ℕ, ◌<◌, ◌⊎◌, if◌then◌else◌, List, [], ◌∷◌, ◌++◌, length, map, Some, None, Option, IfOk, IfErr, Result, ◌==◌}
use Rattle.refusals.specs.declared.refusal.Refusal.TheVariants.{Superseded, Contradicted, BookFull}
use Rattle.refusals.specs.declared.refusal.Refusal.{Refusal}
use Rattle.refusals.specs.Refusals.{refusal_number, Conditions, GivesOrRefuses}
use Rattle.booking.specs.Booking.{LineNumbers}
use Rattle.totals.specs.Sizes.{max_count}
use Rattle.sheet.specs.declared.book.Book.{Book}
use Rattle.sheet.specs.declared.place.Place.{Place}
use Rattle.sheet.specs.Places.{PlaceNumbers, place_numbers, book_places, ChangesOnePlace}

-- equal lines: both are withdrawn, or row, span, code and booked thousandths are the same
abbrev pub EqualLines : Option LineNumbers → Option LineNumbers → Type 0
EqualLines None None = Unit {0}
EqualLines None (Some b) = ⊥
EqualLines (Some a) None = ⊥
EqualLines (Some a) (Some b) = (a.row ≡ b.row) × (a.span ≡ b.span) × (a.code ≡ b.code) × (a.thousandths ≡ b.thousandths)

-- the place that holds the number k, if one does
abbrev pub place_under : ℕ → List PlaceNumbers → Option PlaceNumbers
place_under k [] = None
place_under k (t ∷ ts) = if t.number == k then Some t else place_under k ts

-- `new` is ahead of what its number holds: this has no higher revision, and not the same revision with an equal line
abbrev pub IsNotSuperseded : PlaceNumbers → Option PlaceNumbers → Type 0
IsNotSuperseded new None = Unit {0}
IsNotSuperseded new (Some old) =
    (new.revision < old.revision → ⊥) × (new.revision ≡ old.revision → EqualLines new.line old.line → ⊥)

-- `new` agrees with what its number holds: where the revisions are the same, the lines are equal
abbrev pub Agrees : PlaceNumbers → Option PlaceNumbers → Type 0
Agrees new None = Unit {0}
Agrees new (Some old) = new.revision ≡ old.revision → EqualLines new.line old.line

-- the conditions on what is held under the number
abbrev pub replacing_conditions : PlaceNumbers → Option PlaceNumbers → Conditions
replacing_conditions new old =
    (refusal_number Superseded, IsNotSuperseded new old) ∷ (refusal_number Contradicted, Agrees new old) ∷ []

-- r is Ok where the place `new` may replace the place `old` of its number, and else the refusal
abbrev pub MayReplace : PlaceNumbers → PlaceNumbers → Result (Unit {0}) Refusal → Type 0
MayReplace new old r = GivesOrRefuses (replacing_conditions new (Some old)) (λ _. Unit {0}) r

-- the number k is in the list
abbrev pub IsAmong : ℕ → List ℕ → Type 0
IsAmong k [] = ⊥
IsAmong k (j ∷ js) = (j ≡ k) ⊎ IsAmong k js

-- there is a place for the number k where these numbers have places: its own, or a free one
abbrev pub HasRoom : List ℕ → ℕ → Type 0
HasRoom ks k = IsAmong k ks ⊎ (length ks < max_count)

-- the conditions of putting a place into a book
abbrev pub placing_conditions : List PlaceNumbers → PlaceNumbers → Conditions
placing_conditions held new =
    replacing_conditions new (place_under new.number held)
    ++ ((refusal_number BookFull, HasRoom (map (λ t. t.number) held) new.number) ∷ [])

-- the places with `new` put in: over the place of its number, or after the last
abbrev pub places_with : PlaceNumbers → List PlaceNumbers → List PlaceNumbers
places_with new [] = new ∷ []
places_with new (t ∷ ts) = if t.number == new.number then new ∷ ts else t ∷ places_with new ts

-- putting `new` into a book returns r, and changes the book from `before` to `after`: in one place, or, refused, in
-- none
pub record Puts (new : Place) (before : Book) (r : Result (Unit {0}) Refusal) (after : Book) : Type 0 where
  pub answer : GivesOrRefuses (placing_conditions (book_places before) (place_numbers new))
      (λ _. book_places after ≡ places_with (place_numbers new) (book_places before)) r
  pub one : IfOk r (λ _. ChangesOnePlace new before after)
  pub refused : IfErr r (λ _. after ≡ before)
