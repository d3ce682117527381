-- The notes of a roll that decide: one for each of its numbers, and no other.
use Rattle.std.proofs.Common.{◌≡◌, ℕ, ◌<◌, ◌≤◌, ◌⊎◌, List, [], ◌∷◌, ◌++◌, map, Bool, true, false, if◌then◌else◌, ◌==◌, nat_lt, inl, inr, ⊎_elim, sym, refl, ap, ◌∙◌, subst, arith}
use Rattle.std.specs.List.{AllByRecursion}
use Rattle.sheet.specs.RollNotes.{RollNote}
use Rattle.sheet.specs.Placing.{IsAmong}
use Rattle.sheet.specs.Rolls.{numbers_with, numbers, Decides, AllDecide, none, one}

-- the deciding notes after one more note: it replaces the one under its number if its revision is higher, or is added
-- if its number is new
abbrev pub enter : RollNote → List RollNote → List RollNote
enter n [] = n ∷ []
enter n (m ∷ ms) = if m.number == n.number then (if nat_lt m.revision n.revision then n else m) ∷ ms else m ∷ enter n ms

abbrev pub decide : List RollNote → List RollNote
decide [] = []
decide (n ∷ roll) = enter n (decide roll)

abbrev pub names : List RollNote → List ℕ
names ns = map (λ n. n.number) ns

-- a fact about a test, from both of its results
by_test : (P : Bool → Type 0) (t : Bool) → (t ≡ true → P true) → (t ≡ false → P false) → P t
by_test P true on off = on refl
by_test P false on off = off refl

-- how a note enters: last, ahead of the one under its number, behind it, or past a first one under another number
pub data Enters (n : RollNote) : List RollNote → List RollNote → Type 0 where
  last : Enters n [] (n ∷ [])
  ahead : {m : RollNote} {ms : List RollNote} → m.number ≡ n.number → m.revision < n.revision → Enters n (m ∷ ms) (n ∷ ms)
  behind : {m : RollNote} {ms : List RollNote} → m.number ≡ n.number → n.revision ≤ m.revision → Enters n (m ∷ ms) (m ∷ ms)
  past : {m : RollNote} {ms ns : List RollNote} → (m.number ≡ n.number → ⊥) → Enters n ms ns → Enters n (m ∷ ms) (m ∷ ns)

pub enters : (n : RollNote) (ms : List RollNote) → Enters n ms (enter n ms)
enters n [] = last
enters n (m ∷ ms) =
    by_test (λ t. Enters n (m ∷ ms) (if t then (if nat_lt m.revision n.revision then n else m) ∷ ms else m ∷ enter n ms)) (m.number == n.number)
    (λ e. by_test (λ t. Enters n (m ∷ ms) ((if t then n else m) ∷ ms)) (nat_lt m.revision n.revision)
    (λ l. ahead (grind arith) (grind arith)) (λ l. behind (grind arith) (grind arith)))
    (λ e. past (λ i. grind arith) (enters n ms))

-- what holds of the notes and of the one that enters holds after it has entered
pub all_enter : (P : RollNote → Type 0) {n : RollNote} {ms ns : List RollNote} → Enters n ms ns → P n → AllByRecursion P ms → AllByRecursion P ns
all_enter P last p a = (p, tt)
all_enter P (ahead e l) p a = (p, a.1)
all_enter P (behind e l) p a = a
all_enter P (past o r) p a = (a.0, all_enter P r p a.1)

-- ---- the numbers of a roll

names_enter : (n : RollNote) (ns : List RollNote) → names (enter n ns) ≡ numbers_with n.number (names ns)
names_enter n [] = refl
names_enter n (m ∷ ms) = grind (arith, names_enter n ms)

pub names_decide : (roll : List RollNote) → names (decide roll) ≡ numbers roll
names_decide [] = refl
names_decide (n ∷ roll) = names_enter n (decide roll) ∙ ap (numbers_with n.number) (names_decide roll)

among_own : (k : ℕ) (js : List ℕ) → IsAmong k (numbers_with k js)
among_own k [] = inl refl
among_own k (j ∷ js) = grind (arith, among_own k js)

among_with : (k n : ℕ) (js : List ℕ) → IsAmong k js → IsAmong k (numbers_with n js)
among_with k n [] a = absurd a
among_with k n (j ∷ js) a = grind (arith, among_with k n js)

-- a note's revision is less than r, at most r, or is not r, if its number is k
abbrev Below : ℕ → ℕ → RollNote → Type 0
Below k r x = x.number ≡ k → x.revision < r

abbrev AtMost : ℕ → ℕ → RollNote → Type 0
AtMost k r x = x.number ≡ k → x.revision ≤ r

abbrev NotSame : ℕ → ℕ → RollNote → Type 0
NotSame k r x = x.number ≡ k → x.revision ≡ r → ⊥

-- no note has a number that is not listed
unlisted : (k r : ℕ) (roll : List RollNote) → (IsAmong k (numbers roll) → ⊥) → AllByRecursion (Below k r) roll
unlisted k r [] o = tt
unlisted k r (n ∷ roll) o = (
  λ e. absurd (o (subst (λ j. IsAmong j (numbers (n ∷ roll))) e (among_own n.number (numbers roll)))),
  unlisted k r roll (λ a. o (among_with k n.number (numbers roll) a)),
)

-- no two of the notes have the same number
abbrev Distinct : List RollNote → Type 0
Distinct [] = Unit {0}
Distinct (m ∷ ms) = (IsAmong m.number (names ms) → ⊥) × Distinct ms

among_entered : {n : RollNote} {ms ns : List RollNote} {k : ℕ} → Enters n ms ns → IsAmong k (names ns) → (n.number ≡ k) ⊎ IsAmong k (names ms)
among_entered last a = a
among_entered (ahead e l) a = ⊎_elim inl (λ h. inr (inr h)) a
among_entered (behind e l) a = inr a
among_entered (past o r) (inl h) = inr (inl h)
among_entered (past o r) (inr h) = ⊎_elim inl (λ i. inr (inr i)) (among_entered r h)

distinct_enter : {n : RollNote} {ms ns : List RollNote} → Enters n ms ns → Distinct ms → Distinct ns
distinct_enter last d = ((λ a. a), tt)
distinct_enter (ahead {ms = ms} e l) d = ((λ a. d.0 (subst (λ k. IsAmong k (names ms)) (sym e) a)), d.1)
distinct_enter (behind e l) d = d
distinct_enter (past o r) d = ((λ a. ⊎_elim (λ h. o (sym h)) d.0 (among_entered r a)), distinct_enter r d.1)

distinct_decide : (roll : List RollNote) → Distinct (decide roll)
distinct_decide [] = tt
distinct_decide (n ∷ roll) = distinct_enter (enters n (decide roll)) (distinct_decide roll)

-- ---- one note more

all_map : {X : Type 0} (P Q : X → Type 0) → ((x : X) → P x → Q x) → (xs : List X) → AllByRecursion P xs → AllByRecursion Q xs
all_map P Q f [] a = tt
all_map P Q f (x ∷ xs) a = (f x a.0, all_map P Q f xs a.1)

-- a note decides for its own number
abbrev DecidesIn : List RollNote → RollNote → Type 0
DecidesIn roll m = Decides roll m.number m

module _ (n : RollNote) (roll : List RollNote) where
  -- a note still decides where no higher revision of its number comes
  keeps : {m : RollNote} → DecidesIn roll m → (n.number ≡ m.number → n.revision ≤ m.revision) → DecidesIn (n ∷ roll) m
  keeps d h = record { later = n ∷ d.later; earlier = d.earlier; found = ap (λ ms. n ∷ ms) d.found; named = refl; highest = (h, d.highest); first = d.first }

  keep : (ms : List RollNote) → AllByRecursion (DecidesIn roll) ms → (IsAmong n.number (names ms) → ⊥) → AllByRecursion (DecidesIn (n ∷ roll)) ms
  keep [] a o = tt
  keep (m ∷ ms) a o = (keeps a.0 (λ i. absurd (o (inl (sym i)))), keep ms a.1 (λ h. o (inr h)))

  -- a new note decides where the notes under its number have lower revisions
  takes : AllByRecursion (Below n.number n.revision) roll → DecidesIn (n ∷ roll) n
  takes lower = record {
    later = [];
    earlier = roll;
    found = refl;
    named = refl;
    highest = ((λ h. omega arith), all_map (Below n.number n.revision) (AtMost n.number n.revision) (λ x h i. let j = h i in omega arith) roll lower);
    first = all_map (Below n.number n.revision) (NotSame n.number n.revision) (λ x h i r. let j = h i in omega arith) roll lower;
  }

  lower : {m : RollNote} → DecidesIn roll m → m.number ≡ n.number → m.revision < n.revision → AllByRecursion (Below n.number n.revision) roll
  lower {m} d e l = all_map (AtMost m.number m.revision) (Below n.number n.revision) (λ x h i. let j = h (i ∙ sym e) in omega arith) roll d.highest

  decides_enter : {ms ns : List RollNote} → Enters n ms ns → AllByRecursion (DecidesIn roll) ms → Distinct ms → ((IsAmong n.number (names ms) → ⊥) → AllByRecursion (Below n.number n.revision) roll) → AllByRecursion (DecidesIn (n ∷ roll)) ns
  decides_enter last a d c = (takes (c (λ x. x)), tt)
  decides_enter (ahead {ms = ms} e l) a d c = (takes (lower a.0 e l), keep ms a.1 (λ h. d.0 (subst (λ k. IsAmong k (names ms)) (sym e) h)))
  decides_enter (behind {ms = ms} e l) a d c = (keeps a.0 (λ i. l), keep ms a.1 (λ h. d.0 (subst (λ k. IsAmong k (names ms)) (sym e) h)))
  decides_enter (past o r) a d c = (keeps a.0 (λ i. absurd (o (sym i))), decides_enter r a.1 d.1 (λ p. c (⊎_elim o p)))

decides_all : (roll : List RollNote) → AllByRecursion (DecidesIn roll) (decide roll)
decides_all [] = tt
decides_all (n ∷ roll) =
    decides_enter n roll (enters n (decide roll)) (decides_all roll) (distinct_decide roll)
    (λ o. unlisted n.number n.revision roll (λ a. o (subst (IsAmong n.number) (sym (names_decide roll)) a)))

deciding_of : (roll ns : List RollNote) → AllByRecursion (DecidesIn roll) ns → AllDecide roll (names ns) ns
deciding_of roll [] a = none
deciding_of roll (n ∷ ns) a = one a.0 (deciding_of roll ns a.1)

-- a note decides for each number of a roll
pub deciding : (roll : List RollNote) → AllDecide roll (numbers roll) (decide roll)
deciding roll = subst (λ ks. AllDecide roll ks (decide roll)) (names_decide roll) (deciding_of roll (decide roll) (decides_all roll))

-- ---- only one note decides

-- x is in a list, and P holds of all elements after it
data Stands {X : Type 0} (P : X → Type 0) (x : X) : List X → Type 0 where
  here : {xs : List X} → AllByRecursion P xs → Stands P x (x ∷ xs)
  there : {y : X} {xs : List X} → Stands P x xs → Stands P x (y ∷ xs)

stands : {X : Type 0} {P : X → Type 0} {x : X} (l r : List X) → AllByRecursion P r → Stands P x (l ++ (x ∷ r))
stands [] r a = here a
stands (y ∷ l) r a = there (stands l r a)

holds_at : {X : Type 0} {P : X → Type 0} {x : X} {xs : List X} (Q : X → Type 0) → Stands P x xs → AllByRecursion Q xs → Q x
holds_at Q (here p) a = a.0
holds_at Q (there s) a = holds_at Q s a.1

-- of two elements of a list, one is after the other, or they are the same
one_after : {X : Type 0} {P Q : X → Type 0} {x y : X} {xs : List X} → Stands P x xs → Stands Q y xs → (x ≡ y) ⊎ (Q x ⊎ P y)
one_after (here p) (here q) = inl refl
one_after {P = P} (here p) (there t) = inr (inr (holds_at P t p))
one_after {Q = Q} (there s) (here q) = inr (inl (holds_at Q s q))
one_after (there s) (there t) = one_after s t

decider_stands : {roll : List RollNote} {k : ℕ} {n : RollNote} → Decides roll k n → Stands (NotSame k n.revision) n roll
decider_stands {k = k} {n} d = subst (Stands (NotSame k n.revision) n) (sym d.found) (stands d.later d.earlier d.first)

pub decides_one : {roll : List RollNote} {k : ℕ} {m n : RollNote} → Decides roll k m → Decides roll k n → m ≡ n
decides_one {k = k} {m} {n} a b =
    let m_most = holds_at (AtMost k n.revision) (decider_stands a) b.highest a.named in
    let n_most = holds_at (AtMost k m.revision) (decider_stands b) a.highest b.named in
    ⊎_elim (λ e. e) (⊎_elim (λ h. absurd (h a.named (omega arith))) (λ h. absurd (h b.named (omega arith)))) (one_after (decider_stands a) (decider_stands b))
