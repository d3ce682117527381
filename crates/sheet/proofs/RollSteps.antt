-- The roll of sends beside the book: what a send adds to either.
use Rattle.std.proofs.Common.{◌≡◌, ℕ, List, [], ◌∷◌, map, Some, inl, inr, sym, refl, ap, subst, arith}
use Rattle.factors.specs.Maps.{FactorMap}
use Rattle.sheet.specs.RollNotes.{RollNote, note_place}
use Rattle.sheet.specs.Places.{PlaceNumbers}
use Rattle.sheet.specs.Placing.{place_under, IsNotSuperseded, Agrees, IsAmong, HasRoom, places_with}
use Rattle.sheet.specs.Rolls.{numbers, roll_note_of_bytes, IsRoll, empty, unfit, without_room, on_roll, entries_of, AreCounted}
use Rattle.sheet.proofs.Deciders.{decide, deciding, decides_one, names, Enters, last, ahead, behind, past}

module _ (y : ℕ) (factor_map : FactorMap) where
  -- sends have one roll
  pub roll_only : {sends : List (List ℕ)} {a b : List RollNote} → IsRoll y factor_map sends a → IsRoll y factor_map sends b → b ≡ a
  roll_only empty empty = refl
  roll_only (unfit bs a u) (unfit bs' b v) = roll_only a b
  roll_only (unfit bs a u) (without_room bs' b f full) = absurd (f u)
  roll_only (unfit bs a u) (on_roll bs' b f room) = absurd (f u)
  roll_only (without_room bs a f full) (unfit bs' b u) = absurd (f u)
  roll_only (without_room bs a f full) (without_room bs' b g full') = roll_only a b
  roll_only (without_room bs a f full) (on_roll bs' b g room) = absurd (full (subst (λ r. HasRoom (numbers r) (roll_note_of_bytes bs).number) (roll_only a b) room))
  roll_only (on_roll bs a f room) (unfit bs' b u) = absurd (f u)
  roll_only (on_roll bs a f room) (without_room bs' b g full) = absurd (full (subst (λ r. HasRoom (numbers r) (roll_note_of_bytes bs).number) (sym (roll_only a b)) room))
  roll_only (on_roll bs a f room) (on_roll bs' b g room') = ap (λ r. roll_note_of_bytes bs ∷ r) (roll_only a b)

  abbrev line : RollNote → PlaceNumbers
  line n = note_place y factor_map n

  pub places_numbers : (ns : List RollNote) → map (λ t. t.number) (map line ns) ≡ names ns
  places_numbers [] = refl
  places_numbers (n ∷ ns) = ap (λ ks. n.number ∷ ks) (places_numbers ns)

  under_here : (n m : RollNote) (ms : List RollNote) → m.number ≡ n.number → place_under n.number (map line (m ∷ ms)) ≡ Some (line m)
  under_here n m ms e = grind arith

  under_past : (n m : RollNote) (ms : List RollNote) → (m.number ≡ n.number → ⊥) → place_under n.number (map line (m ∷ ms)) ≡ place_under n.number (map line ms)
  under_past n m ms o = grind arith

  -- a place that is ahead of its number's and agrees with it replaces it, and so does its note among those that decide
  pub places_enter : {n : RollNote} {ms ns : List RollNote} → Enters n ms ns → IsNotSuperseded (line n) (place_under n.number (map line ms)) → Agrees (line n) (place_under n.number (map line ms)) → places_with (line n) (map line ms) ≡ map line ns
  places_enter last a g = refl
  places_enter (ahead e l) a g = grind arith
  places_enter {n} (behind {m} {ms} e l) a g =
      let held = under_here n m ms e in
      let a' : IsNotSuperseded (line n) (Some (line m)) = subst (IsNotSuperseded (line n)) held a in
      let g' : Agrees (line n) (Some (line m)) = subst (Agrees (line n)) held g in
      let r : n.revision ≡ m.revision = omega (arith, a'.0, l) in
      absurd (a'.1 r (g' r))
  places_enter {n} (past {m} {ms} o r) a g =
      let held = under_past n m ms o in
      grind (arith, places_enter r (subst (IsNotSuperseded (line n)) held a) (subst (Agrees (line n)) held g))

  -- a place that is behind its number's, or contradicts it, has a number that is held, and its note decides nothing
  pub stays : {n : RollNote} {ms ns : List RollNote} → Enters n ms ns → (IsNotSuperseded (line n) (place_under n.number (map line ms)) → Agrees (line n) (place_under n.number (map line ms)) → ⊥) → IsAmong n.number (names ms) × (ns ≡ ms)
  stays last h = absurd (h tt tt)
  stays {n} (ahead {m} {ms} e l) h =
      let refused = subst (λ o. IsNotSuperseded (line n) o → Agrees (line n) o → ⊥) (under_here n m ms e) h in
      absurd (refused ((λ b. omega arith), (λ r. omega arith)) (λ r. absurd (omega arith)))
  stays (behind e l) h = (inl e, refl)
  stays {n} (past {m} {ms} o r) h =
      let s = stays r (subst (λ o. IsNotSuperseded (line n) o → Agrees (line n) o → ⊥) (under_past n m ms o) h) in
      (inr s.0, ap (λ ns. m ∷ ns) s.1)

-- the entries of the notes that decide on the roll of sends are those that are counted
pub roll_counts : {y : ℕ} {factor_map : FactorMap} {sends : List (List ℕ)} {roll : List RollNote} → IsRoll y factor_map sends roll → AreCounted y factor_map sends (entries_of (decide roll))
roll_counts {y} {factor_map} {roll = roll} is =
    record {
      roll = roll;
      is_roll = is;
      only_roll = λ other r. roll_only y factor_map is r;
      deciding = decide roll;
      decide = deciding roll;
      only_one = λ k m n p q. decides_one p q;
      counted = refl;
    }
