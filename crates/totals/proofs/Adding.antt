-- Sums over the places of an array, one of which is added to.
use Rattle.std.proofs.Common.{◌≡◌, ℕ, zero, suc, ◌+◌, ◌<◌, ◌≤◌, Bool, true, false, if◌then◌else◌, List, [], ◌∷◌, length, get_or, set, drop, replicate, sum_by, sum, ℤ, pos, ◌+ℤ◌, unsigned_abs, FitsSigned, w64, to_z, of_z, refl, sym, ap, ◌∙◌, arith}
use Rattle.std.proofs.lemmas.Int.{ints, to_z-of_z, fits_signed_from_abs}
use Rattle.std.proofs.lemmas.List.{drop_more, drop_all}
use Rattle.std.proofs.lemmas.List.Sums.{sum_by-set, get_or-le-sum_by}
use Rattle.totals.specs.Sizes.{max_total_grams}
use Rattle.totals.specs.Sums.{sum_in, grams_in, count_in, numbered_rows, Sums}

-- the sums of grams and of counts, each with the number of its row
abbrev pub sums_in : List (ℕ × ℤ) → List (ℕ × ℕ) → Sums
sums_in ws ns = record { grams = λ choice. grams_in choice ws; counts = λ choice. count_in choice ns }

-- an addition: any order, a neutral value, and no other value that is twice itself
pub record Adds {X : Type 0} (none : X) (plus : X → X → X) : Type 0 where
  pub with_none : (a : X) → plus none a ≡ a
  pub order : (a b : X) → plus a b ≡ plus b a
  pub apart : (a b c : X) → plus (plus a b) c ≡ plus a (plus b c)
  pub only : (a : X) → a ≡ plus a a → a ≡ none

-- addition of integers and of natural numbers
pub whole : Adds (pos 0) ◌+ℤ◌
whole = record { with_none = λ a. omega (arith, ints); order = λ a b. omega (arith, ints); apart = λ a b c. omega (arith, ints); only = λ a twice. omega (arith, ints, twice) }

pub natural : Adds 0 ◌+◌
natural = record { with_none = λ a. omega arith; order = λ a b. omega arith; apart = λ a b c. omega arith; only = λ a twice. omega (arith, twice) }

-- what one value adds to a sum over chosen rows
abbrev pub part : {X : Type 0} → X → (ℕ → Bool) → ℕ → X → X
part none choice row x = if choice row then x else none

module _ {X : Type 0} {none : X} {plus : X → X → X} (laws : Adds none plus) where
  -- the last two of three terms are exchanged
  turned : (a b c : X) → plus (plus a b) c ≡ plus (plus a c) b
  turned a b c = laws.apart a b c ∙ ap (plus a) (laws.order b c) ∙ sym (laws.apart a c b)

  -- the middle two of four terms are exchanged
  pub crossed : (p q s t : X) → plus (plus p q) (plus s t) ≡ plus (plus p s) (plus q t)
  crossed p q s t = sym (laws.apart (plus p q) s t) ∙ ap (λ z. plus z t) (turned p q s) ∙ laws.apart (plus p s) q t

  -- a value is added if it is chosen
  if_chosen : (chosen : Bool) (x s : X) → (if chosen then plus x s else s) ≡ plus (if chosen then x else none) s
  if_chosen true x s = refl
  if_chosen false x s = sym (laws.with_none s)

  -- two values of one row are chosen together
  both_chosen : (chosen : Bool) (x y : X) → (if chosen then plus x y else none) ≡ plus (if chosen then x else none) (if chosen then y else none)
  both_chosen true x y = refl
  both_chosen false x y = sym (laws.with_none none)

  -- the first value, and those after it
  pub first : (choice : ℕ → Bool) (row : ℕ) (x : X) (vs : List (ℕ × X)) → sum_in none plus choice ((row, x) ∷ vs) ≡ plus (part none choice row x) (sum_in none plus choice vs)
  unfolding sum_in
  first choice row x vs = if_chosen (choice row) x (sum_in none plus choice vs)

  -- what is added at a place is added to the sum
  pub added : (choice : ℕ → Bool) (k : ℕ) (xs : List X) (at : ℕ) (d g : X) → at < length xs → sum_in none plus choice (numbered_rows k (set xs at (plus (get_or xs at d) g))) ≡ plus (sum_in none plus choice (numbered_rows k xs)) (part none choice (k + at) g)
  unfolding numbered_rows
  added choice k [] at d g h = absurd (omega arith)
  added choice k (x ∷ xs) zero d g h =
      let rest = numbered_rows (k + 1) xs in
      let e : k + 0 ≡ k = omega arith in
      rw e (cc (first choice k (plus x g) rest, both_chosen (choice k) x g, turned (part none choice k x) (part none choice k g) (sum_in none plus choice rest), first choice k x rest))
  added choice k (x ∷ xs) (suc at) d g h =
      let rest = numbered_rows (k + 1) xs in
      let e : k + suc at ≡ k + 1 + at = omega arith in
      rw e (cc (first choice k x (numbered_rows (k + 1) (set xs at (plus (get_or xs at d) g))), added choice (k + 1) xs at d g (omega arith), laws.apart (part none choice k x) (sum_in none plus choice rest) (part none choice (k + 1 + at) g), first choice k x rest))

  -- the values from place i on: the one at i, and those after it
  pub one_more : (choice : ℕ → Bool) (k : ℕ) (xs : List X) (i : ℕ) (d : X) → i < length xs → sum_in none plus choice (numbered_rows k (drop i xs)) ≡ plus (part none choice k (get_or xs i d)) (sum_in none plus choice (numbered_rows (k + 1) (drop (i + 1) xs)))
  unfolding numbered_rows
  one_more choice k xs i d h = ap (λ ys. sum_in none plus choice (numbered_rows k ys)) (drop_more xs i d h) ∙ first choice k (get_or xs i d) (numbered_rows (k + 1) (drop (i + 1) xs))

  -- the sum of rows that are all empty
  pub nothing : (choice : ℕ → Bool) (k n : ℕ) → sum_in none plus choice (numbered_rows k (replicate n none)) ≡ none
  unfolding sum_in numbered_rows
  nothing choice k zero = refl
  nothing choice k (suc n) =
      let after = nothing choice (k + 1) n in
      let s = sum_in none plus choice (numbered_rows (k + 1) (replicate n none)) in
      elim (choice k) as (λ b. (if b then plus none s else s) ≡ none) [ true ↦ laws.with_none s ∙ after | false ↦ after ]

  -- past the last place there is nothing to add
  pub no_more : (choice : ℕ → Bool) (k : ℕ) (xs : List X) (i : ℕ) → length xs ≤ i → sum_in none plus choice (numbered_rows k (drop i xs)) ≡ none
  unfolding sum_in numbered_rows
  no_more choice k xs i h = ap (λ ys. sum_in none plus choice (numbered_rows k ys)) (drop_all i xs h)

-- the size of a sum is at most the sum of the sizes
pub size_of_sum : (a b : ℤ) → unsigned_abs (a +ℤ b) ≤ unsigned_abs a + unsigned_abs b
size_of_sum (pos a) (pos b) = omega (arith, ints)
size_of_sum a b = omega (arith, ints)

-- a number as 64 bits hold it
abbrev pub held : ℤ → ℤ
held z = to_z w64 (of_z w64 z)

-- two numbers whose sizes together are within the bound: their sum fits in 64 bits, and is read back as it is
module _ (a b : ℤ) (in_bounds : unsigned_abs a + unsigned_abs b ≤ max_total_grams) where
  held_both : held a +ℤ held b ≡ a +ℤ b
  held_both = rw (to_z-of_z w64 a (fits_signed_from_abs w64 a (omega arith)), to_z-of_z w64 b (fits_signed_from_abs w64 b (omega arith))) refl

  pub in_bounds_fits : FitsSigned w64 (held a +ℤ held b)
  in_bounds_fits = rw held_both (fits_signed_from_abs w64 (a +ℤ b) (omega (arith, size_of_sum a b)))

  pub in_bounds_kept : held (held a +ℤ held b) ≡ a +ℤ b
  in_bounds_kept = to_z-of_z w64 (held a +ℤ held b) in_bounds_fits ∙ held_both

-- where a value is added, the sum of sizes grows by its size at most
pub sizes_added : (xs : List ℤ) (at : ℕ) (d g : ℤ) → at < length xs → sum_by unsigned_abs (set xs at (get_or xs at d +ℤ g)) ≤ sum_by unsigned_abs xs + unsigned_abs g
sizes_added xs at d g h = omega (arith, sum_by-set unsigned_abs xs at (get_or xs at d +ℤ g) d h, size_of_sum (get_or xs at d) g)

-- no value is larger than the sum of all sizes
pub size_most : (xs : List ℤ) (at : ℕ) (d : ℤ) → at < length xs → unsigned_abs (get_or xs at d) ≤ sum_by unsigned_abs xs
size_most xs at d h = get_or-le-sum_by unsigned_abs xs at d h

-- where a count is added, the sum of counts grows by it
pub counts_added : (xs : List ℕ) (at d g : ℕ) → at < length xs → sum (set xs at (get_or xs at d + g)) ≡ sum xs + g
counts_added xs at d g h = omega (arith, sum_by-set (λ x. x) xs at (get_or xs at d + g) d h)
