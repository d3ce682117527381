-- The index of a book stays an index of its places.
use Rattle.std.proofs.Common.{◌≡◌, ℕ, zero, suc, ◌+◌, ◌%◌, ◌<◌, ◌≤◌, List, [], ◌∷◌, length, get_or, set, min, refl, subst, arith}
use Rattle.std.proofs.lemmas.List.{get_or-set_same}
use Rattle.sheet.specs.declared.index.Index.{Index}
use Rattle.sheet.specs.Places.{PlaceNumbers}
use Rattle.sheet.specs.Placing.{places_with}
use Rattle.sheet.specs.Indexes.{remainders, search_start, index_with, held_numbers, IsIndexOf}

-- the search for the number of any place does not begin behind that place, where the first place is the nth
abbrev Indexed : (ℕ → ℕ) → ℕ → List PlaceNumbers → Type 0
Indexed start n held = (i : ℕ) → i < length held → start (get_or (held_numbers held) i 0) ≤ n + i

put_in : (start : ℕ → ℕ) (new : PlaceNumbers) (n : ℕ) (held : List PlaceNumbers) → start new.number ≤ n + length held → Indexed start n held → Indexed start n (places_with new held)
put_in start new n [] next h zero l = next
put_in start new n [] next h (suc i) l = absurd (omega (arith, l))
put_in start new n (t ∷ ts) next h zero l =
    let here = h 0 (omega arith) in
    grind (arith, here)
put_in start new n (t ∷ ts) next h (suc i) l =
    let rest = put_in start new (n + 1) ts (omega (arith, next)) (λ j m. let later = h (suc j) (omega (arith, m)) in omega (arith, later)) in
    grind (arith, h (suc i), rest i)

-- no number of a list grows where one is lowered
lowered : (xs : List ℕ) (i j x : ℕ) → get_or (set xs i (min (get_or xs i 0) x)) j 0 ≤ get_or xs j 0
lowered [] i j x = grind arith
lowered (y ∷ ys) zero zero x = grind arith
lowered (y ∷ ys) zero (suc j) x = grind arith
lowered (y ∷ ys) (suc i) zero x = grind arith
lowered (y ∷ ys) (suc i) (suc j) x = lowered ys i j x

-- the index of places, lowered for a new one to the place after them, is that of the places with the new one put in
module _ (index : Index) (before : List PlaceNumbers) (new : PlaceNumbers) {next : ℕ} (whole : length index.starts ≡ remainders) (h : IsIndexOf index before) (last : next ≡ length before) where
  abbrev remainder : ℕ
  remainder = new.number % remainders

  abbrev starts : ℕ → ℕ
  starts = search_start (index_with new.number next index)

  new_start : starts new.number ≤ 0 + length before
  new_start =
      let at = get_or-set_same index.starts remainder (min (search_start index new.number) next) 0 (grind (arith, whole)) in
      grind (arith, at, last)

  old_starts : Indexed starts 0 before
  old_starts i l =
      let sooner = lowered index.starts remainder (get_or (held_numbers before) i 0 % remainders) next in
      let was = h (get_or (held_numbers before) i 0) i l refl in
      omega (arith, sooner, was)

  pub kept : {after : Index} {held : List PlaceNumbers} → after ≡ index_with new.number next index → held ≡ places_with new before → IsIndexOf after held
  kept is put = rw (is, put) (λ k i l e.
      let start = put_in starts new 0 before new_start old_starts i l in
      subst (λ k. starts k ≤ i) e (omega (arith, start)))
