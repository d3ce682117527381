-- The sum of the rows of the energy of use.
use Rattle.std.proofs.Common.{◌≡◌, ◌≢◌, ℕ, ◌-◌, Bool, ◌||◌, length, get_or, pos, ◌+ℤ◌, arith}
use Rattle.std.specs.Prelude.{⊤, ◌==◌}
use Rattle.std.proofs.lemmas.Bool.Decides.{nat_tests}
use Rattle.std.proofs.lemmas.Int.{ints}
use Rattle.booking.specs.declared.row.Row.{Row}
use Rattle.booking.specs.Rows.{IsRowNumber, row_number}
use Rattle.totals.specs.Sizes.{IsWithinTotals}
use Rattle.totals.specs.Sums.{numbered_rows, sums_of}
use Rattle.totals.specs.declared.totals.Totals.{Totals}
use Rattle.totals.proofs.Adding.{whole, held}
use Rattle.totals.proofs.Choosing.{Parts, split, one_alone, grams_within}
use Rattle.grades.specs.Grades.{is_use_energy}

-- the rows of energy burnt, and of energy bought
abbrev burnt : ℕ → Bool
burnt row = row == 11 || row == 14

abbrev bought : ℕ → Bool
bought row = row == 12 || row == 15

module _ (t : Totals) where
  -- where a choice is split in two, the sum is that of the two parts, and within the bounds of totals
  together : {a b c : ℕ → Bool} → ((row : ℕ) → Parts (a row) (b row) (c row)) → ((sums_of t).grams c ≡ (sums_of t).grams a +ℤ (sums_of t).grams b) × IsWithinTotals ((sums_of t).grams c)
  together {c} parts = (split whole {In = λ _. ⊤} (numbered_rows 1 t.grams) (λ _ _ _. tt) (λ row _. parts row), grams_within t c)

  -- the sum of two rows, and that of all rows of the energy of use
  pub two_rows : {m n : ℕ} → m ≢ n → ((sums_of t).grams (λ row. row == m || row == n) ≡ (sums_of t).grams (λ row. row == m) +ℤ (sums_of t).grams (λ row. row == n)) × IsWithinTotals ((sums_of t).grams (λ row. row == m || row == n))
  two_rows {m} {n} apart = together (λ row. record { one = grind (arith, nat_tests) })

  pub energy_rows : ((sums_of t).grams is_use_energy ≡ (sums_of t).grams burnt +ℤ (sums_of t).grams bought +ℤ (sums_of t).grams (λ row. row == 19)) × IsWithinTotals ((sums_of t).grams is_use_energy)
  energy_rows =
      let used = together {a = burnt} {b = bought} {c = λ row. burnt row || bought row} (λ row. record { one = grind (arith, nat_tests) }) in
      let all = together {a = λ row. burnt row || bought row} {b = λ row. row == 19} {c = is_use_energy} (λ row. record { one = grind (arith, nat_tests) }) in
      (omega (arith, ints, used, all), all.1)

  -- the value at a row's place, as it is read back
  pub one_row : {at : ℕ} (row : Row) → length t.grams ≡ 22 → at ≡ row_number row - 1 → (held (get_or t.grams at (pos 0)) ≡ (sums_of t).grams (λ r. r == row_number row)) × IsWithinTotals (held (get_or t.grams at (pos 0)))
  one_row row places is =
      let range : IsRowNumber (row_number row) = grind arith in
      let alone = one_alone whole (row_number row) 1 t.grams (row_number row - 1) (pos 0) (omega arith) (omega arith) in
      let small = grams_within t (λ r. r == row_number row) in
      rw is (omega (arith, ints), omega (arith, ints))
