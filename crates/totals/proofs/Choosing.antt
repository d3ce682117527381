-- Sums over chosen rows: of two choices together, of one row alone, and their bounds.
use Rattle.std.proofs.Common.{◌≡◌, ℕ, zero, suc, ◌+◌, ◌<◌, ◌≤◌, Bool, true, false, if◌then◌else◌, List, [], ◌∷◌, length, get_or, sum_by, pos, ◌+ℤ◌, unsigned_abs, nat_eq, refl, sym, ap, ◌∙◌, arith}
use Rattle.std.specs.List.{All}
use Rattle.std.proofs.lemmas.Bool.Decides.{nat_tests}
use Rattle.std.proofs.lemmas.List.Elements.{All-head, All-tail}
use Rattle.std.proofs.lemmas.List.Sums.{sum_by-cons}
use Rattle.totals.specs.Sizes.{max_count, IsWithinTotals}
use Rattle.totals.specs.Sums.{sum_in, numbered_rows, sums_of}
use Rattle.totals.specs.declared.totals.Totals.{Totals}
use Rattle.totals.proofs.Adding.{Adds, part, crossed, first, size_of_sum}

-- c is a or b, which are not both
pub record Parts (a b c : Bool) : Type 0 where
  pub one : (if c then 1 else 0) ≡ (if a then 1 else 0) + (if b then 1 else 0)

module _ {X : Type 0} {none : X} {plus : X → X → X} (laws : Adds none plus) where
  -- a value is chosen by just one of the two
  part_split : {a b c : Bool} (x : X) → Parts a b c → (if c then x else none) ≡ plus (if a then x else none) (if b then x else none)
  part_split {a = true} {b = false} {c = true} x h = sym (laws.order x none ∙ laws.with_none x)
  part_split {a = false} {b = true} {c = true} x h = sym (laws.with_none x)
  part_split {a = false} {b = false} {c = false} x h = sym (laws.with_none none)
  part_split {c} x h = absurd (grind (arith, h.one))

  -- where one choice is split in two, the sum is that of the two parts
  pub split : {In : ℕ → Type 0} {a b c : ℕ → Bool} (vs : List (ℕ × X)) → All (λ v. In v.0) vs → ((row : ℕ) → In row → Parts (a row) (b row) (c row)) → sum_in none plus c vs ≡ plus (sum_in none plus a vs) (sum_in none plus b vs)
  unfolding sum_in
  split [] rows parts = sym (laws.with_none none)
  split {In} {a} {b} {c} (v ∷ vs) rows parts =
      let after = split vs (All-tail (λ w. In w.0) v vs rows) parts in
      let here = part_split v.1 (parts v.0 (All-head (λ w. In w.0) v vs rows)) in
      let together = crossed laws (part none a v.0 v.1) (part none b v.0 v.1) (sum_in none plus a vs) (sum_in none plus b vs) in
      cc (first laws a v.0 v.1 vs, first laws b v.0 v.1 vs, first laws c v.0 v.1 vs)

  -- a row before the first has nothing
  none_after : (row k : ℕ) (xs : List X) → row < k → sum_in none plus (λ r. nat_eq r row) (numbered_rows k xs) ≡ none
  unfolding sum_in numbered_rows
  none_after row k [] l = refl
  none_after row k (x ∷ xs) l = let past : nat_eq k row ≡ false = grind (arith, nat_tests) in rw past (none_after row (k + 1) xs (omega arith))

  -- the sum of one row is its value
  pub one_alone : (row k : ℕ) (xs : List X) (i : ℕ) (d : X) → k + i ≡ row → i < length xs → sum_in none plus (λ r. nat_eq r row) (numbered_rows k xs) ≡ get_or xs i d
  unfolding sum_in numbered_rows
  one_alone row k [] i d e l = absurd (omega arith)
  one_alone row k (x ∷ xs) zero d e l =
      let here : nat_eq k row ≡ true = grind (arith, nat_tests) in
      rw here (ap (plus x) (none_after row (k + 1) xs (omega arith)) ∙ laws.order x none ∙ laws.with_none x)
  one_alone row k (x ∷ xs) (suc i) d e l =
      let past : nat_eq k row ≡ false = grind (arith, nat_tests) in
      rw past (one_alone row (k + 1) xs i d (omega arith) (omega arith))

-- a size of values: 0 for none, and for a sum at most the sum of the sizes
record Sized {X : Type 0} (none : X) (plus : X → X → X) (size : X → ℕ) : Type 0 where
  of_none : size none ≡ 0
  of_sum : (a b : X) → size (plus a b) ≤ size a + size b

-- the size of a sum over chosen rows is at most the sum of all sizes
most : {X : Type 0} {none : X} {plus : X → X → X} {size : X → ℕ} → Sized none plus size → (choice : ℕ → Bool) (k : ℕ) (xs : List X) → size (sum_in none plus choice (numbered_rows k xs)) ≤ sum_by size xs
unfolding sum_in numbered_rows
most sized choice k [] = omega (arith, sized.of_none)
most {none} {plus} {size} sized choice k (x ∷ xs) =
    let s = sum_in none plus choice (numbered_rows (k + 1) xs) in
    let after = most sized choice (k + 1) xs in
    let both = sized.of_sum x s in
    let all = sum_by-cons size x xs in
    elim (choice k) as (λ b. size (if b then plus x s else s) ≤ sum_by size (x ∷ xs)) [ true ↦ omega arith | false ↦ omega arith ]

-- so no choice of rows exceeds the bounds of totals
pub grams_within : (t : Totals) (choice : ℕ → Bool) → IsWithinTotals ((sums_of t).grams choice)
grams_within t choice =
    let sized : Sized (pos 0) ◌+ℤ◌ unsigned_abs = record { of_none = refl; of_sum = size_of_sum } in
    omega (arith, most sized choice 1 t.grams, t.grams_within)

pub counts_within : (t : Totals) (choice : ℕ → Bool) → (sums_of t).counts choice ≤ max_count
counts_within t choice =
    let sized : Sized 0 ◌+◌ (λ n. n) = record { of_none = refl; of_sum = λ a b. omega arith } in
    omega (arith, most sized choice 1 t.counts, t.counts_within)
