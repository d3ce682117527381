-- Putting a place into a book: at the first place of its number or, where it has none, at the next.
use Rattle.std.proofs.Common.{◌≡◌, ℕ, ◌+◌, ◌<◌, ◌≤◌, List, [], ◌∷◌, ◌++◌, length, get_or, set, take, map, Some, None, Option, Ok, Err, ◌==◌, Bool, inl, inr, ⊎_elim, ap, ◌∙◌, sym, refl, subst, arith, length-take}
use Rattle.std.specs.List.{position, position_or_len}
use Rattle.std.proofs.lemmas.List.{length-map, get_or-take, take_more_set}
use Rattle.std.proofs.Math.Seq.{take-set-lt}
use Rattle.refusals.specs.declared.refusal.Refusal.{Refusal}
use Rattle.refusals.specs.declared.refusal.Refusal.TheVariants.{BookFull}
use Rattle.refusals.specs.Refusals.{refusal_number, Conditions, AllHold, IsLeastFailing}
use Rattle.refusals.proofs.Deciding.{least_stop, least_failing, both_hold}
use Rattle.sheet.specs.declared.book.Book.{Book}
use Rattle.sheet.specs.declared.place.PlaceContent.TheVariants.{Withdrawn}
use Rattle.sheet.specs.declared.place.Place.{Place}
use Rattle.sheet.specs.Places.{PlaceNumbers, place_numbers, used_places, book_places}
use Rattle.sheet.specs.Indexes.{held_numbers}
use Rattle.sheet.specs.Placing.{place_under, IsAmong, HasRoom, replacing_conditions, places_with, Puts}

-- a place that is not in use
abbrev pub empty : Place
empty = record { number = 0; revision = 0; content = Withdrawn }

module _ (k : ℕ) where
  -- where the first place of the number k stands; if none does, behind the last
  abbrev pub first : List Place → ℕ
  first ps = position_or_len (λ p. p.number == k) ps

  found : (ps : List Place) → first ps < length ps → place_under k (map place_numbers ps) ≡ Some (place_numbers (get_or ps (first ps) empty))
  found [] l = absurd (omega arith)
  found (p ∷ ps) l = grind (arith, found ps)

  among : (ps : List Place) → first ps < length ps → IsAmong k (held_numbers (map place_numbers ps))
  among [] l = absurd (omega arith)
  among (p ∷ ps) l = grind (arith, among ps)

  replaced : (ps : List Place) (new : Place) → first ps < length ps → new.number ≡ k → map place_numbers (set ps (first ps) new) ≡ places_with (place_numbers new) (map place_numbers ps)
  replaced [] new l e = absurd (omega arith)
  replaced (p ∷ ps) new l e = grind (arith, replaced ps new)

  missed : (ps : List Place) → length ps ≤ first ps → place_under k (map place_numbers ps) ≡ None
  missed [] l = refl
  missed (p ∷ ps) l = grind (arith, missed ps)

  not_among : (ps : List Place) → length ps ≤ first ps → IsAmong k (held_numbers (map place_numbers ps)) → ⊥
  not_among [] l a = a
  not_among (p ∷ ps) l a = grind (arith, not_among ps)

  added : (ps : List Place) (new : Place) → length ps ≤ first ps → new.number ≡ k → map place_numbers (ps ++ new ∷ []) ≡ places_with (place_numbers new) (map place_numbers ps)
  added [] new l e = refl
  added (p ∷ ps) new l e = grind (arith, added ps new)

-- where `position` finds a place, it is the first
located : {X : Type 0} (p : X → Bool) (xs : List X) {at : ℕ} → position p xs ≡ Some at → (position_or_len p xs ≡ at) × (at < length xs)
located p xs e = grind arith

nowhere : {X : Type 0} (p : X → Bool) (xs : List X) → position p xs ≡ None → length xs ≤ position_or_len p xs
nowhere p xs e = grind arith

module _ (new : Place) (book : Book) where
  abbrev k : ℕ
  k = new.number

  abbrev ps : List Place
  ps = used_places book

  abbrev line_conditions : Option PlaceNumbers → Conditions
  line_conditions held = replacing_conditions (place_numbers new) held

  abbrev room_conditions_of : Conditions
  room_conditions_of = (refusal_number BookFull, HasRoom (held_numbers (book_places book)) k) ∷ []

  -- ---- the number has a place

  module _ {at : ℕ} (e : position (λ p. p.number == new.number) (used_places book) ≡ Some at) where
    abbrev old : PlaceNumbers
    old = place_numbers (get_or book.places at empty)

    at_is : first k ps ≡ at
    at_is = (located (λ p. p.number == k) ps e).0

    within : first k ps < length ps
    within = let l = located (λ p. p.number == k) ps e in omega (arith, l.0, l.1)

    used : (at < book.used) × (at < length book.places)
    used = (omega (arith, within, at_is, length-take book.used book.places), omega (arith, within, at_is, length-take book.used book.places))

    here : place_under k (book_places book) ≡ Some old
    here = subst (λ i. place_under k (book_places book) ≡ Some (place_numbers (get_or ps i empty))) at_is (found k ps within) ∙ ap (λ p. Some (place_numbers p)) (get_or-take book.used book.places at empty used.0)

    replaced_there : map place_numbers (take book.used (set book.places at new)) ≡ places_with (place_numbers new) (book_places book)
    replaced_there = ap (map place_numbers) (take-set-lt book.used book.places at new used.0) ∙ subst (λ i. map place_numbers (set ps i new) ≡ places_with (place_numbers new) (book_places book)) at_is (replaced k ps new within refl)

    -- a place is refused by the book where the one of its number refuses to be replaced
    pub puts_nothing : {f : Refusal} → IsLeastFailing (line_conditions (Some old)) (refusal_number f) → Puts new book (Err f) book
    puts_nothing {f} least = record {
      answer = subst (λ o. IsLeastFailing (line_conditions o ++ room_conditions_of) (refusal_number f)) (sym here) (least_stop (line_conditions (Some old)) room_conditions_of (refusal_number f) refl least);
      one = tt;
      refused = refl;
    }

    pub puts_there : AllHold (line_conditions (Some old)) → Puts new book (Ok tt) (record { places = set book.places at new; used = book.used })
    puts_there kept = record {
      answer = (both_hold (line_conditions (place_under k (book_places book))) room_conditions_of (subst (λ o. AllHold (line_conditions o)) (sym here) kept) (inl (among k ps within), tt), replaced_there);
      one = record { at = at; within = used.1; places = refl; used = inl (used.0, refl) };
      refused = tt;
    }

  -- ---- the number has no place

  module _ (whole : length book.places ≡ 512) (e : position (λ p. p.number == new.number) (used_places book) ≡ None) where
    none : length ps ≤ first k ps
    none = nowhere (λ p. p.number == k) ps e

    as_many : length (held_numbers (book_places book)) ≡ length ps
    as_many = length-map (book_places book) (λ t. t.number) ∙ length-map ps place_numbers

    free : AllHold (line_conditions (place_under k (book_places book)))
    free = subst (λ o. AllHold (line_conditions o)) (sym (missed k ps none)) (tt, (tt, tt))

    pub puts_none : 512 ≤ book.used → Puts new book (Err BookFull) book
    puts_none full = record {
      answer = least_failing (line_conditions (place_under k (book_places book))) [] (refusal_number BookFull) refl free (⊎_elim (not_among k ps none) (λ less. omega (arith, as_many, length-take book.used book.places)));
      one = tt;
      refused = refl;
    }

    pub puts_next : book.used < 512 → Puts new book (Ok tt) (record { places = set book.places book.used new; used = book.used + 1 })
    puts_next less = record {
      answer = (
        both_hold (line_conditions (place_under k (book_places book))) room_conditions_of free (inr (omega (arith, as_many, length-take book.used book.places)), tt),
        ap (map place_numbers) (take_more_set book.places book.used new (omega arith)) ∙ added k ps new none refl,
      );
      one = record { at = book.used; within = omega (arith, less, whole); places = refl; used = inr (refl, refl) };
      refused = tt;
    }
