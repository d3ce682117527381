-- The laws of rounding, which other proofs cite in place of its definition.
use Rattle.std.proofs.Common.{◌≡◌, ℕ, ◌+◌, ◌*◌, ◌<◌, ◌≤◌, ℤ, pos, negsuc, ◌+ℤ◌, ◌*ℤ◌, ◌≤ℤ◌, ◌<ℤ◌, sym, ap, ◌∙◌, subst, mul-le-mul_right, mod-lt, mul_comm, div-add-mod', arith}
use lib.IntN.{+ℤ_idr}
use lib.Signed.{shr_z, pos-nat_abs, yes_non_neg}
use Rattle.std.proofs.lemmas.Int.{ints, by_lt_z}
use Rattle.exact.specs.Rounding.{Fraction, over, HasPositiveDivisor, IsNoLarger, IsSame, IsWithinHalf, IsNearest, nearest_whole, rounded_quotient, IsRounding}
use Rattle.exact.proofs.Products.{scale_le, twice, apart, step, doubled, scaled}

-- a number rounded down
floors : (z : ℤ) (m : ℕ) → 0 < m → ((shr_z z m *ℤ pos m) ≤ℤ z) × (z <ℤ (shr_z z m *ℤ pos m +ℤ pos m))
floors (pos a) m h = let e = div-add-mod' a m in let l = mod-lt a h in (omega (arith, ints), omega (arith, ints))
floors (negsuc a) m h = let e = div-add-mod' a m in let l = mod-lt a h in (omega (arith, ints), omega (arith, ints))

-- r is nearest to x, where x lies from a half below r to less than a half above it
bounded : {r : ℤ} {x : Fraction} → (pos 2 *ℤ (r *ℤ pos x.divisor)) ≤ℤ (pos 2 *ℤ x.numerator +ℤ pos x.divisor) → (pos 2 *ℤ x.numerator) <ℤ (pos 2 *ℤ (r *ℤ pos x.divisor) +ℤ pos x.divisor) → IsNearest r x
bounded least strict = record { near = record { least = least; most = omega (arith, ints, strict) }; upper = λ half. omega (arith, ints, strict, half) }

-- rounding gives a nearest number
pub is_nearest : (x : Fraction) → HasPositiveDivisor x → IsNearest (nearest_whole x) x
unfolding nearest_whole
is_nearest x h =
    let f = floors (pos 2 *ℤ x.numerator +ℤ pos x.divisor) (2 * x.divisor) (omega arith) in
    let t = twice (nearest_whole x) x.divisor in
    bounded (omega (arith, ints)) (omega (arith, ints))

-- x is less than a half above the number nearest to it
pub below : {r : ℤ} {x : Fraction} → IsNearest r x → (pos 2 *ℤ x.numerator) <ℤ (pos 2 *ℤ (r *ℤ pos x.divisor) +ℤ pos x.divisor)
below a = omega (arith, ints, a.near.most, a.upper)

-- of two numbers nearest to x, neither is above the other
no_larger : {r s : ℤ} {x : Fraction} → IsNearest r x → IsNearest s x → s ≤ℤ r
no_larger {r} {s} {x} a b = by_lt_z r s (λ l. let e = step x.divisor l in let p = below a in absurd (omega (arith, ints, b.near.least))) (λ l. l)

-- a number nearest to x is the one that rounding gives
only : {r : ℤ} {x : Fraction} → HasPositiveDivisor x → IsNearest r x → r ≡ nearest_whole x
only {x} h a = omega (arith, ints, no_larger a (is_nearest x h), no_larger (is_nearest x h) a)

-- a fraction with numerator and divisor multiplied has the same nearest number
nearest_scaled : {r : ℤ} {x : Fraction} (k : ℕ) → 0 < k → IsNearest r x → IsNearest r (over (x.numerator *ℤ pos k) (x.divisor * k))
nearest_scaled {r} {x} k h a =
    let n2 = pos 2 *ℤ x.numerator in
    let d = x.divisor in
    let rd = pos 2 *ℤ (r *ℤ pos d) in
    let left = scaled r d k in
    let right = doubled x.numerator k in
    let more : (n2 +ℤ pos 1) ≤ℤ (rd +ℤ pos d) = omega (arith, ints, below a) in
    bounded (omega (arith, ints, scale_le k a.near.least, apart n2 (pos d) k, left, right)) (omega (arith, ints, scale_le k more, apart n2 (pos 1) k, apart rd (pos d) k, left, right))

-- a larger fraction has no smaller nearest number
pub nearest_mono : (x y : Fraction) → HasPositiveDivisor x → HasPositiveDivisor y → IsNoLarger x y → nearest_whole x ≤ℤ nearest_whole y
nearest_mono x y hx hy le =
    let c = x.divisor in
    let d = y.divisor in
    let a = (nearest_scaled d hy (is_nearest x hx)).near.least in
    let b = below (nearest_scaled c hx (is_nearest y hy)) in
    let f : nearest_whole y *ℤ pos (d * c) ≡ nearest_whole y *ℤ pos (c * d) = ap (λ z. nearest_whole y *ℤ pos z) (mul_comm d c) in
    by_lt_z (nearest_whole y) (nearest_whole x) (λ l. let e = step (c * d) l in absurd (omega (arith, ints, mul_comm d c))) (λ l. l)

-- equal fractions have the same nearest number
pub nearest_same : (x y : Fraction) → HasPositiveDivisor x → HasPositiveDivisor y → IsSame x y → nearest_whole x ≡ nearest_whole y
nearest_same x y hx hy e =
    let a = nearest_mono x y hx hy (omega (arith, ints)) in
    let b = nearest_mono y x hy hx (omega (arith, ints)) in
    omega (arith, ints)

-- a whole number plus less than a half is rounded down, and plus a half or more is rounded up
pub nearest_down : (w : ℤ) (rest d : ℕ) → rest + rest < d → w ≡ nearest_whole (over (w *ℤ pos d +ℤ pos rest) d)
nearest_down w rest d l = only (omega arith) (bounded (omega (arith, ints)) (omega (arith, ints)))

pub nearest_up : (w : ℤ) (rest d : ℕ) → rest < d → d ≤ rest + rest → w +ℤ pos 1 ≡ nearest_whole (over (w *ℤ pos d +ℤ pos rest) d)
nearest_up w rest d b l =
    let e = apart w (pos 1) d in
    only (omega arith) (bounded (omega (arith, ints)) (omega (arith, ints)))

-- a whole number is rounded to itself
pub stays : (r : ℤ) (d : ℕ) → 0 < d → nearest_whole (over (r *ℤ pos d) d) ≡ r
stays r d h = ap (λ n. nearest_whole (over n d)) (sym (+ℤ_idr (r *ℤ pos d))) ∙ sym (nearest_down r 0 d h)

-- rounding keeps all of its laws
pub rounding : IsRounding nearest_whole
rounding = record { is_nearest = is_nearest; only = λ x r h a. only h a; stays = stays; monotone = nearest_mono }

-- a fraction of natural numbers is rounded to no less than 0, and to 0 where it is below a half
pub nearest_natural : (n d : ℕ) → 0 < d → pos 0 ≤ℤ nearest_whole (over (pos n) d)
nearest_natural n d h =
    subst (λ z. z ≤ℤ nearest_whole (over (pos n) d)) (stays (pos 0) d h) (nearest_mono (over (pos 0 *ℤ pos d) d) (over (pos n) d) h h (omega (arith, ints)))

pub nearest_small : (n d : ℕ) → n + n < d → pos 0 ≡ nearest_whole (over (pos n) d)
nearest_small n d l = nearest_down (pos 0) n d l ∙ ap (λ m. nearest_whole (over m d)) (omega (arith, ints))

-- `rounded_quotient` is the nearest whole number
pos_rounded : (n d : ℕ) → 0 < d → pos (rounded_quotient n d) ≡ nearest_whole (over (pos n) d)
pos_rounded n d h = pos-nat_abs (nearest_whole (over (pos n) d)) (yes_non_neg (nearest_natural n d h))

-- and is at most a half away
pub rounded_near : (n d : ℕ) → 0 < d → IsWithinHalf (pos (rounded_quotient n d)) (over (pos n) d)
rounded_near n d h = subst (λ r. IsWithinHalf r (over (pos n) d)) (sym (pos_rounded n d h)) (is_nearest (over (pos n) d) h).near

-- a fraction of at most k is rounded to at most k
pub rounded_most : (n d k : ℕ) → 0 < d → n ≤ k * d → rounded_quotient n d ≤ k
rounded_most n d k h l =
    let m = nearest_mono (over (pos n) d) (over (pos k *ℤ pos d) d) h h (omega (arith, ints, mul-le-mul_right d l)) in
    omega (arith, ints, pos_rounded n d h, stays (pos k) d h)
