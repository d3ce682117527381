use Rattle.std.proofs.Common.{◌≡◌, pos, ◌+ℤ◌, ◌*ℤ◌, nat_abs, ◌∙◌, arith, rules, w64, FitsSigned, to_z, of_z}
use Rattle.std.proofs.lemmas.Int.{ints, to_z-of_z}
use Rattle.exact.proofs.Nearness.{rounding}
use Rattle.exact.proofs.Products.{whole_and_rest}
use Rattle.exact.proofs.fraction.Fraction.round.Goals as goal

-- the quotient and the rest that the code computes give back the numerator
parts : (c : goal.After-round) → c.div_euclid-whole.result *ℤ pos c.args.self.divisor +ℤ c.rem_euclid-rest.result ≡ c.args.self.numerator
parts c =
    let numerator : FitsSigned w64 c.args.self.numerator = search rules in
    let divisor : FitsSigned w64 c.from-divisor.result = search rules in
    let whole = simp to_z-of_z at c.div_euclid-whole.ensures in
    let rest = simp to_z-of_z at c.rem_euclid-rest.ensures.value in
    rw (whole, rest, c.from-divisor.ensures) (whole_and_rest c.args.self.numerator c.args.self.divides)

pub returns : goal.returns
returns c =
    let whole : to_z w64 (of_z w64 c.div_euclid-whole.result) ≡ c.div_euclid-whole.result = omega (arith, ints) in
    let rest : pos (nat_abs (to_z w64 (of_z w64 c.rem_euclid-rest.result))) ≡ c.rem_euclid-rest.result = omega (arith, ints, c.rem_euclid-rest.ensures.lower_bound) in
    record {
      value = omega (arith, ints) ∙ c.round.ensures ∙ cc (whole, rest, c.from.ensures, parts c);
      laws = rounding;
    }
