use Rattle.std.proofs.Common.{◌≡◌, ◌-◌, ◌*◌, ◌/◌, ◌%◌, ◌^◌, ◌≤◌, pos, ◌+ℤ◌, ◌*ℤ◌, ◌≤ℤ◌, ◌∙◌, arith, pow_mono, w64, to_z, rules}
use lib.Signed.{yes_non_neg}
use Rattle.std.proofs.lemmas.Nat.{pow_pos, pow_below, shr_le, shr_split}
use Rattle.std.proofs.lemmas.Int.{ints}
use Rattle.exact.specs.Rounding.{over, nearest_whole}
use Rattle.exact.proofs.Nearness.{nearest_small, nearest_natural}
use Rattle.exact.proofs.binary_fraction.BinaryFraction.round.Goals as goal

pub returns-then-shift-gt63 : goal.returns-then-shift-gt63
returns-then-shift-gt63 c = let far : 64 ≤ c.args.self.shift = omega arith in nearest_small c.args.self.numerator (2 ^ c.args.self.shift) (omega (arith, pow_mono far))

-- the code rounds this fraction
is : (c : goal.After-round) → c.round.result ≡ nearest_whole (over (pos c.args.self.numerator) (2 ^ c.args.self.shift))
is c =
    let n = c.args.self.numerator in
    let k = c.args.self.shift in
    let split = shr_split n k in
    let divisor : 1 * 2 ^ k % 2 ^ 64 ≡ 2 ^ k = omega (arith, pow_below k 64 (omega arith)) in
    let whole : to_z w64 (n / 2 ^ k) ≡ pos (n / 2 ^ k) = omega (arith, ints, shr_le n k) in
    let sum : pos (n / 2 ^ k) *ℤ pos (2 ^ k) +ℤ pos (n - n / 2 ^ k * 2 ^ k % 2 ^ 64) ≡ pos n = omega (arith, ints) in
    cc (c.round.ensures, whole, divisor, sum)

-- and the result is no less than 0
natural : (c : goal.After-round) → pos 0 ≤ℤ c.round.result
natural c = rw (is c) (nearest_natural c.args.self.numerator (2 ^ c.args.self.shift) (pow_pos c.args.self.shift))

pub overflow_cast-result : goal.overflow_cast-result
overflow_cast-result c = let h = natural c in (yes_non_neg (omega (arith, ints)), search rules)

pub returns : goal.returns
returns c = let h = natural c in (omega (arith, ints)) ∙ is c
