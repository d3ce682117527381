-- Which refusal a call returns: laws of conditions and of `GivesOrRefuses`.
use Rattle.std.proofs.Common.{◌≡◌, ℕ, zero, suc, ◌<◌, ◌⊎◌, Bool, true, false, ◌&&◌, not, ◌==◌, nat_lt, List, [], ◌∷◌, ◌++◌, map, Ok, Err, Result, refl, subst, inl, inr, ⊎_elim, arith}
use Rattle.std.specs.Bool.{IsTrue}
use Rattle.std.proofs.lemmas.Bool.Decides.{nat_tests}
use Rattle.std.proofs.str.Laws.{order}
use Rattle.refusals.specs.declared.refusal.Refusal.{Refusal}
use Rattle.refusals.specs.Refusals.{refusal_number, Conditions, AllHold, SomeFails, IsLeastFailing, IsAnswerNumber, GivesOrRefuses}

-- ---- The order of conditions

-- the numbers of conditions, in their order
abbrev pub numbers : Conditions → List ℕ
numbers cs = map (λ c. c.0) cs

abbrev pub all_after : ℕ → List ℕ → Bool
all_after n [] = true
all_after n (m ∷ ms) = nat_lt n m && all_after n ms

-- the numbers are ascending: each is smaller than all that follow it
abbrev pub in_order : List ℕ → Bool
in_order [] = true
in_order (n ∷ ns) = all_after n ns && in_order ns

abbrev pub InOrder : Conditions → Type 0
InOrder cs = IsTrue (in_order (numbers cs))

-- the number n is not in the list
abbrev pub without : ℕ → List ℕ → Bool
without n [] = true
without n (m ∷ ms) = not (m == n) && without n ms

-- ---- Lists of conditions, one after the other

pub both_hold : (cs ds : Conditions) → AllHold cs → AllHold ds → AllHold (cs ++ ds)
both_hold [] ds k l = l
both_hold (c ∷ cs) ds k l = (k.0, both_hold cs ds k.1 l)

pub left_hold : (cs ds : Conditions) → AllHold (cs ++ ds) → AllHold cs
left_hold [] ds k = tt
left_hold (c ∷ cs) ds k = (k.0, left_hold cs ds k.1)

pub right_hold : (cs ds : Conditions) → AllHold (cs ++ ds) → AllHold ds
right_hold [] ds k = k
right_hold (c ∷ cs) ds k = right_hold cs ds k.1

pub none_fails : (cs : Conditions) → AllHold cs → (n : ℕ) → SomeFails cs n → ⊥
none_fails [] k n b = b
none_fails (c ∷ cs) k n (inl e) = e.1 k.0
none_fails (c ∷ cs) k n (inr b) = none_fails cs k.1 n b

pub fails_either : (cs ds : Conditions) (n : ℕ) → SomeFails (cs ++ ds) n → SomeFails cs n ⊎ SomeFails ds n
fails_either [] ds n b = inr b
fails_either (c ∷ cs) ds n (inl e) = inl (inl e)
fails_either (c ∷ cs) ds n (inr b) = ⊎_elim (λ a. inl (inr a)) inr (fails_either cs ds n b)

pub fails_left : (cs ds : Conditions) (n : ℕ) → SomeFails cs n → SomeFails (cs ++ ds) n
fails_left [] ds n b = absurd b
fails_left (c ∷ cs) ds n (inl e) = inl e
fails_left (c ∷ cs) ds n (inr b) = inr (fails_left cs ds n b)

fails_right : (cs ds : Conditions) (n : ℕ) → SomeFails ds n → SomeFails (cs ++ ds) n
fails_right [] ds n b = b
fails_right (c ∷ cs) ds n b = inr (fails_right cs ds n b)

-- no condition with the number n fails, where none has that number
pub number_absent : (cs : Conditions) (n : ℕ) → IsTrue (without n (numbers cs)) → SomeFails cs n → ⊥
number_absent [] n w b = b
number_absent (c ∷ cs) n w (inl e) = grind (arith, nat_tests)
number_absent (c ∷ cs) n w (inr b) = number_absent cs n (grind (arith, nat_tests)) b

-- nor is n the smallest number of one that fails
pub absent_not_least : (cs : Conditions) (n : ℕ) → IsTrue (without n (numbers cs)) → {k : ℕ} → IsLeastFailing cs k → k ≡ n → ⊥
absent_not_least cs n w least is = number_absent cs n w (subst (SomeFails cs) is least.0)

-- where all numbers are above n, a condition that fails has a number above n
after : (n : ℕ) (cs : Conditions) → IsTrue (all_after n (numbers cs)) → (k : ℕ) → SomeFails cs k → n < k
after n [] a k b = absurd b
after n (c ∷ cs) a k (inl e) = grind (arith, nat_tests)
after n (c ∷ cs) a k (inr b) = after n cs (grind (arith, nat_tests)) k b

after_right : (n : ℕ) (cs ds : Conditions) → IsTrue (all_after n (numbers (cs ++ ds))) → IsTrue (all_after n (numbers ds))
after_right n [] ds a = a
after_right n (c ∷ cs) ds a = after_right n cs ds (grind (arith, nat_tests))

-- of two lists in ascending order, a number that fails in the first is below one that fails in the second
pub earlier : (cs ds : Conditions) → InOrder (cs ++ ds) → (m k : ℕ) → SomeFails cs m → SomeFails ds k → m < k
earlier [] ds o m k b d = absurd b
earlier (c ∷ cs) ds o m k (inl e) d =
    let later = after c.0 ds (after_right c.0 cs ds (grind (arith, nat_tests))) k d in omega (arith, e.0, later)
earlier (c ∷ cs) ds o m k (inr b) d = earlier cs ds (grind (arith, nat_tests)) m k b d

-- ---- Which number is the smallest

-- conditions in front that all hold change nothing
pub least_on : (cs ds : Conditions) (n : ℕ) → AllHold cs → IsLeastFailing ds n → IsLeastFailing (cs ++ ds) n
least_on cs ds n kept d =
    (fails_right cs ds n d.0, λ m l b. ⊎_elim (none_fails cs kept m) (d.1 m l) (fails_either cs ds m b))

least_off : (cs ds : Conditions) (n : ℕ) → AllHold cs → IsLeastFailing (cs ++ ds) n → IsLeastFailing ds n
least_off cs ds n kept d =
    (⊎_elim (λ b. absurd (none_fails cs kept n b)) (λ b. b) (fails_either cs ds n d.0), λ m l b. d.1 m l (fails_right cs ds m b))

-- nor do conditions behind, with larger numbers
pub least_stop : (cs ds : Conditions) (n : ℕ) → InOrder (cs ++ ds) → IsLeastFailing cs n → IsLeastFailing (cs ++ ds) n
least_stop cs ds n o d =
    (fails_left cs ds n d.0, λ m l b. ⊎_elim (d.1 m l) (λ e. let later = earlier cs ds o n m d.0 e in omega arith) (fails_either cs ds m b))

-- where the smallest number is of the second list, no condition of the first fails
pub first_hold : (cs ds : Conditions) (k : ℕ) → InOrder (cs ++ ds) → IsLeastFailing (cs ++ ds) k → SomeFails ds k → (m : ℕ) → SomeFails cs m → ⊥
first_hold cs ds k o least d m b = least.1 m (earlier cs ds o m k b d) (fails_left cs ds m b)

-- in ascending order, the first condition that fails has the smallest number
pub least_failing : (before after : Conditions) (n : ℕ) {P : Type 0} → InOrder (before ++ ((n, P) ∷ after)) → AllHold before → (P → ⊥) → IsLeastFailing (before ++ ((n, P) ∷ after)) n
least_failing before after n {P} o kept fails =
    least_on before ((n, P) ∷ after) n kept
    (inl (refl, fails), λ m l b. ⊎_elim (λ e. omega (arith, e.0)) (λ later. let l' = after_in before o m later in omega arith) b)
  where
    after_in : (bs : Conditions) → InOrder (bs ++ ((n, P) ∷ after)) → (m : ℕ) → SomeFails after m → n < m
    after_in bs o m b = earlier ((n, P) ∷ []) after (right bs o) n m (inl (refl, fails)) b
      where
        right : (bs : Conditions) → InOrder (bs ++ ((n, P) ∷ after)) → InOrder ((n, P) ∷ after)
        right [] o = o
        right (b ∷ bs) o = right bs (grind (arith, nat_tests))

-- at most one number is the smallest
pub least_only : (cs : Conditions) (m n : ℕ) → IsLeastFailing cs m → IsLeastFailing cs n → m ≡ n
least_only cs m n a b =
    ⊎_elim (λ l. absurd (b.1 m l a.0)) (λ l. ⊎_elim (λ l'. absurd (a.1 n l' b.0)) (λ l'. omega arith) (order n m)) (order m n)

-- A or B, by a test
abbrev pub either : Bool → Type 0 → Type 0 → Type 0
either true A B = A
either false A B = B

-- the first condition with the number n, or nothing where there is none
abbrev pub condition_at : ℕ → Conditions → Type 0
condition_at n [] = Unit {0}
condition_at n (c ∷ cs) = either (c.0 == n) c.1 (condition_at n cs)

one_of : {A B : Type 0} (t : Bool) → A → B → either t A B
one_of true a b = a
one_of false a b = b

-- where all conditions hold, so does the one with the number n
pub hold_at : (n : ℕ) (cs : Conditions) → AllHold cs → condition_at n cs
hold_at n [] k = tt
hold_at n (c ∷ cs) k = one_of (c.0 == n) k.0 (hold_at n cs k.1)

-- ---- Results

pub above_zero : (f : Refusal) → 0 < refusal_number f
above_zero f = grind arith

-- the number is 0 where all conditions hold, and the smallest number where one fails
pub answered_hold : (cs : Conditions) → AllHold cs → IsAnswerNumber cs 0
answered_hold cs kept = record { kept = λ zero. kept; least = λ more. absurd (omega arith) }

pub answered_least : (cs : Conditions) (f : Refusal) → IsLeastFailing cs (refusal_number f) → IsAnswerNumber cs (refusal_number f)
answered_least cs f least = record { kept = λ zero. absurd (omega (arith, above_zero f)); least = λ more. least }

pub least_answered : (cs : Conditions) (f : Refusal) → IsAnswerNumber cs (refusal_number f) → IsLeastFailing cs (refusal_number f)
least_answered cs f answer = answer.least (above_zero f)

one_number : (cs : Conditions) (m n : ℕ) → IsAnswerNumber cs m → IsAnswerNumber cs n → m ≡ n
one_number cs zero zero p q = refl
one_number cs zero (suc n) p q = absurd (none_fails cs (p.kept refl) (suc n) (q.least (omega arith)).0)
one_number cs (suc m) zero p q = absurd (none_fails cs (q.kept refl) (suc m) (p.least (omega arith)).0)
one_number cs (suc m) (suc n) p q = least_only cs (suc m) (suc n) (p.least (omega arith)) (q.least (omega arith))

-- the number of a result is unique
pub number_unique : (cs : Conditions) {m n : ℕ} → IsAnswerNumber cs m → IsAnswerNumber cs n → m ≡ n
number_unique cs {m = m} {n = n} = one_number cs m n

-- two results are the same: values that R relates, or refusals with one number
abbrev pub SameAnswer : {X : Type 0} → (X → X → Type 0) → Result X Refusal → Result X Refusal → Type 0
SameAnswer R (Ok x) (Ok y) = R x y
SameAnswer R (Ok x) (Err g) = ⊥
SameAnswer R (Err f) (Ok y) = ⊥
SameAnswer R (Err f) (Err g) = refusal_number f ≡ refusal_number g

-- two results under the same conditions are the same, where R relates every value of which P holds to every one of
-- which Q holds
pub answer_unique : {X : Type 0} (cs : Conditions) (P Q : X → Type 0) (R : X → X → Type 0) → ((x y : X) → P x → Q y → R x y) → (r s : Result X Refusal) → GivesOrRefuses cs P r → GivesOrRefuses cs Q s → SameAnswer R r s
answer_unique cs P Q R one (Ok x) (Ok y) d e = one x y d.1 e.1
answer_unique cs P Q R one (Ok x) (Err g) d e = none_fails cs d.0 (refusal_number g) e.0
answer_unique cs P Q R one (Err f) (Ok y) d e = none_fails cs e.0 (refusal_number f) d.0
answer_unique cs P Q R one (Err f) (Err g) d e = least_only cs (refusal_number f) (refusal_number g) d e

module _ {X : Type 0} (Q : X → Type 0) (cs ds : Conditions) (kept : AllHold cs) where
  pub gives_after : (r : Result X Refusal) → GivesOrRefuses ds Q r → GivesOrRefuses (cs ++ ds) Q r
  gives_after (Ok x) d = (both_hold cs ds kept d.0, d.1)
  gives_after (Err f) d = least_on cs ds _ kept d

  pub gives_before : (r : Result X Refusal) → GivesOrRefuses (cs ++ ds) Q r → GivesOrRefuses ds Q r
  gives_before (Ok x) d = (right_hold cs ds d.0, d.1)
  gives_before (Err f) d = least_off cs ds _ kept d
