-- The sums of a cut's first headings.
use Rattle.std.proofs.Common.{◌≡◌, ℕ, ◌+◌, ◌≤◌, Bool, true, List, [], ◌∷◌, length, ℤ, ◌+ℤ◌, nat_eq, nat_le, sym, ap, ◌∙◌, arith}
use Rattle.std.specs.List.{All}
use Rattle.std.proofs.lemmas.Bool.Decides.{nat_tests}
use Rattle.std.proofs.lemmas.List.Elements.{All-nil, All-cons}
use Rattle.booking.specs.Rows.{IsRowNumber}
use Rattle.totals.specs.Sums.{numbered_rows, Sums, sums_of}
use Rattle.totals.specs.declared.totals.Totals.{Totals}
use Rattle.totals.proofs.Adding.{Adds, whole, natural, sums_in}
use Rattle.totals.proofs.Choosing.{Parts, split}
use Rattle.pages.specs.Cuts.{Assignment, IsCut}
use Rattle.pages.specs.Pages.{is_between}

-- where a choice is split in two, the sum is that of the two parts
pub record Splits {X : Type 0} (plus : X → X → X) (sum : (ℕ → Bool) → X) : Type 0 where
  pub at : {a b c : ℕ → Bool} → ((row : ℕ) → IsRowNumber row → Parts (a row) (b row) (c row)) → sum c ≡ plus (sum a) (sum b)

-- the sums of grams and of counts split so
pub record Additive (sums : Sums) : Type 0 where
  pub grams : Splits ◌+ℤ◌ sums.grams
  pub counts : Splits ◌+◌ sums.counts

-- sums of values that each have the number of a row split so
pub additive : (ws : List (ℕ × ℤ)) (ns : List (ℕ × ℕ)) → All (λ w. IsRowNumber w.0) ws → All (λ n. IsRowNumber n.0) ns → Additive (sums_in ws ns)
additive ws ns rows rows' = record {
  grams = record { at = λ parts. split whole ws rows parts };
  counts = record { at = λ parts. split natural ns rows' parts };
}

-- the places of an array have the numbers of rows
rows_of : {X : Type 0} (k : ℕ) (xs : List X) → 1 ≤ k → k + length xs ≤ 23 → All (λ v. IsRowNumber v.0) (numbered_rows k xs)
unfolding numbered_rows
rows_of {X} k [] l m = All-nil {X = ℕ × X} (λ v. IsRowNumber v.0)
rows_of {X} k (x ∷ xs) l m = All-cons {X = ℕ × X} (λ v. IsRowNumber v.0) (k, x) (numbered_rows (k + 1) xs) (omega arith, omega arith) (rows_of (k + 1) xs (omega arith) (omega arith))

-- so the sums of totals split
pub additive_sums : (t : Totals) → length t.grams ≡ 22 → length t.counts ≡ 22 → Additive (sums_of t)
additive_sums t g c = additive (numbered_rows 1 t.grams) (numbered_rows 1 t.counts) (rows_of 1 t.grams (omega arith) (omega arith)) (rows_of 1 t.counts (omega arith) (omega arith))

-- a cut, and sums that can be put under its headings
pub record Cutting (cut : Assignment) (sums : Sums) : Type 0 where
  pub lawful : IsCut cut
  pub adds : Additive sums

-- the rows under the headings up to k
abbrev pub up_to : Assignment → ℕ → ℕ → Bool
up_to cut k row = nat_le (cut.heading row) k

module _ {X : Type 0} {none : X} {plus : X → X → X} (laws : Adds none plus) {sum : (ℕ → Bool) → X} (splits : Splits plus sum) {cut : Assignment} (lawful : IsCut cut) where
  -- the sum of the headings up to j is that up to i and that of those after it
  pub sum_between : (i j : ℕ) → i ≤ j → sum (up_to cut j) ≡ plus (sum (up_to cut i)) (sum (λ row. is_between i j (cut.heading row)))
  sum_between i j l = splits.at (λ row r. record { one = grind (arith, nat_tests) })

  -- the sum up to the next heading has that one more
  pub sum_more : (k : ℕ) → sum (up_to cut (k + 1)) ≡ plus (sum (up_to cut k)) (sum (λ row. nat_eq (cut.heading row) (k + 1)))
  sum_more k = splits.at (λ row r. record { one = grind (arith, nat_tests) })

  -- the sum up to heading 0 is nothing, and that up to the last heading is of all rows
  pub sum_none : sum (up_to cut 0) ≡ none
  sum_none = laws.only _ (splits.at (λ row r. let w = lawful.every row r in record { one = grind (arith, nat_tests) }))

  pub sum_all : sum (up_to cut cut.size) ≡ sum (λ row. true)
  sum_all =
      let all : sum (λ row. true) ≡ plus (sum (up_to cut 0)) (sum (up_to cut cut.size)) = splits.at (λ row r. let w = lawful.every row r in record { one = grind (arith, nat_tests) }) in
      sym (all ∙ ap (λ z. plus z (sum (up_to cut cut.size))) sum_none ∙ laws.with_none _)
