-- Products of an integer with a natural number.
use Rattle.std.proofs.Common.{◌≡◌, ℕ, zero, suc, ◌*◌, ◌<◌, ℤ, pos, negsuc, ◌+ℤ◌, ◌*ℤ◌, neg_ℤ, ◌≤ℤ◌, ◌<ℤ◌, ap, ◌∙◌, mod-lt, div-add-mod', arith}
use lib.IntN.{*ℤ-zero}
use Rattle.std.specs.Int.{int_div_euclid, int_rem_euclid}
use Rattle.std.proofs.lemmas.Int.{ints}

-- a factor that is one larger adds a once more
once_more : (a : ℤ) (k : ℕ) → a *ℤ pos (suc k) ≡ a *ℤ pos k +ℤ a
once_more (pos a) k = omega (arith, ints)
once_more (negsuc a) k = omega (arith, ints)

-- multiplying both sides by a natural number keeps their order
pub scale_le : {a b : ℤ} (k : ℕ) → a ≤ℤ b → (a *ℤ pos k) ≤ℤ (b *ℤ pos k)
scale_le {a} {b} zero h = omega (arith, ints, *ℤ-zero a, *ℤ-zero b)
scale_le {a} {b} (suc k) h = omega (arith, ints, scale_le k h, once_more a k, once_more b k)

-- doubling a factor doubles the product
pub twice : (q : ℤ) (d : ℕ) → q *ℤ pos (2 * d) ≡ pos 2 *ℤ (q *ℤ pos d)
twice (pos q) d = omega (arith, ints)
twice (negsuc q) d = omega (arith, ints)

-- a sum is multiplied term by term
pub apart : (a b : ℤ) (k : ℕ) → (a +ℤ b) *ℤ pos k ≡ a *ℤ pos k +ℤ b *ℤ pos k
apart a b zero = omega (arith, ints, *ℤ-zero a, *ℤ-zero b, *ℤ-zero (a +ℤ b))
apart a b (suc k) = omega (arith, ints, apart a b k, once_more a k, once_more b k, once_more (a +ℤ b) k)

-- the product of the negative is the negative of the product
pub negative : (a : ℤ) (k : ℕ) → neg_ℤ a *ℤ pos k ≡ neg_ℤ (a *ℤ pos k)
negative a zero = omega (arith, ints, *ℤ-zero a, *ℤ-zero (neg_ℤ a))
negative a (suc k) = omega (arith, ints, negative a k, once_more a k, once_more (neg_ℤ a) k)

-- multiplying by j and then by k is multiplying by j * k
crossed : (a : ℤ) (j k : ℕ) → a *ℤ pos j *ℤ pos k ≡ a *ℤ pos (j * k)
crossed (pos a) j k = omega (arith, ints)
crossed (negsuc a) j k = negative (pos (suc a * j)) k ∙ omega (arith, ints)

-- a whole number above r is at least r + 1, here multiplied by k
pub step : {r s : ℤ} (k : ℕ) → r <ℤ s → (r *ℤ pos k +ℤ pos k) ≤ℤ (s *ℤ pos k)
step {r} {s} k h = let l : (r +ℤ pos 1) ≤ℤ s = omega (arith, ints) in omega (arith, ints, apart r (pos 1) k, scale_le k l)

-- the double of a product
pub doubled : (a : ℤ) (k : ℕ) → pos 2 *ℤ a *ℤ pos k ≡ pos 2 *ℤ (a *ℤ pos k)
doubled a k = let e : pos 2 *ℤ a ≡ a +ℤ a = omega (arith, ints) in ap (λ z. z *ℤ pos k) e ∙ apart a a k ∙ omega (arith, ints)

-- twice a product, multiplied by one more factor
pub scaled : (r : ℤ) (c d : ℕ) → pos 2 *ℤ (r *ℤ pos c) *ℤ pos d ≡ pos 2 *ℤ (r *ℤ pos (c * d))
scaled r c d = doubled (r *ℤ pos c) d ∙ ap (λ z. pos 2 *ℤ z) (crossed r c d)

-- Euclidean division: the quotient times the divisor, plus the rest, is the number
pub whole_and_rest : (z : ℤ) {d : ℕ} → 0 < d → int_div_euclid z (pos d) *ℤ pos d +ℤ int_rem_euclid z (pos d) ≡ z
whole_and_rest (pos a) {d} h = let x = div-add-mod' a d in omega (arith, ints)
whole_and_rest (negsuc a) {d} h = let x = div-add-mod' a d in let l = mod-lt a h in omega (arith, ints)
