-- The first place of a number, found from where its search begins.
use Rattle.std.proofs.Common.{◌≡◌, ℕ, zero, suc, ◌+◌, ◌-◌, ◌<◌, ◌≤◌, List, [], ◌∷◌, length, drop, map, None, Option, option_map, ◌==◌, min, refl, subst, arith}
use Rattle.std.proofs.lemmas.List.{length-drop, take_all}
use Rattle.std.specs.List.{position, slice_range}
use Rattle.sheet.specs.declared.place.Place.{Place}
use Rattle.sheet.specs.Indexes.{NoneBefore}
use Rattle.sheet.specs.Places.{place_numbers}
use Rattle.sheet.proofs.Places.{first}

module _ (k : ℕ) where
  -- the search from `start` on ends where that of all places does
  first_from : (ps : List Place) (start : ℕ) → NoneBefore start k (map place_numbers ps) → first k ps ≡ min start (length ps) + first k (drop start ps)
  first_from [] zero h = refl
  first_from [] (suc s) h = grind arith
  first_from (p ∷ ps) zero h = grind arith
  first_from (p ∷ ps) (suc s) h =
      let late = h 0 (omega arith) in
      let rest = first_from ps s (λ i l e. let later = h (suc i) (omega arith) e in omega arith) in
      grind (arith, late, rest)

  -- the slice from `start` to the end
  to_end : (ps : List Place) (start : ℕ) → slice_range ps start (length ps) ≡ drop start ps
  to_end ps start = take_all (length ps - start) (drop start ps) (let n = length-drop start ps in omega arith)

  module _ (ps : List Place) {places : List Place} {start : ℕ} (same : places ≡ ps) (none : NoneBefore start k (map place_numbers ps)) where
    -- what is found from `start` on is what is found of all places
    pub found_later : {later : List Place} {r : Option ℕ} → later ≡ slice_range places start (length places) → start ≤ length places → position (λ p. p.number == k) later ≡ r → option_map (λ at. start + at) r ≡ position (λ p. p.number == k) ps
    found_later all l e = subst (λ r. option_map (λ at. start + at) r ≡ position (λ p. p.number == k) ps) e (grind (arith, first_from ps start none, length-drop start ps, to_end ps start))

    pub missed_beyond : length places < start → None ≡ position (λ p. p.number == k) ps
    missed_beyond l = grind (arith, first_from ps start none)
