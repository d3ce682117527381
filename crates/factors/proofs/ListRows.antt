-- The rows of a project's list, one by one.
use Rattle.std.proofs.Common.{◌≡◌, ℕ, ◌+◌, ◌<◌, true, List, length, get_or, drop, sym, ◌∙◌, None, ap, arith}
use Rattle.std.proofs.lemmas.Bool.Decides.{nat_tests}
use Rattle.std.proofs.lemmas.List.{at_drop_more}
use Rattle.domain.specs.declared.factor.FactorNumbers.{FactorNumbers}
use Rattle.domain.specs.declared.factor.FactorRow.{FactorRow}
use Rattle.domain.specs.Factors.{IsFactorInRange, is_factor_in_range}
use Rattle.factors.specs.Lists.{list_map, row_factor, or_next}

-- numbers that pass the test are in range
pub in_range : (n : FactorNumbers) → is_factor_in_range n ≡ true → IsFactorInRange n
in_range n f = grind (arith, nat_tests)

-- a row that has no factor for the code can be left out
pub passed : (rows : List FactorRow) (i c : ℕ) (d : FactorRow) → i < length rows → row_factor (get_or rows i d) c ≡ None → list_map (drop (i + 1) rows) c ≡ list_map (drop i rows) c
passed rows i c d less none = sym (at_drop_more (λ rs. list_map rs c) rows i d less ∙ ap (λ o. or_next o (list_map (drop (i + 1) rows) c)) none)
