-- Keeping the factor rows that are not refused.
use Rattle.std.proofs.Common.{◌≡◌, ℕ, ◌+◌, ◌<◌, List, [], ◌∷◌, ◌++◌, length, get_or, take, Ok, Err, Result, refl, ap, ◌∙◌, append-nil}
use Rattle.std.proofs.lemmas.List.{take_more}
use Rattle.refusals.specs.declared.refusal.Refusal.{Refusal}
use Rattle.domain.specs.declared.factor.FactorRow.{FactorRow}
use Rattle.feed.specs.FactorRows.{ReadsEachRow, none as none_read, one as one_read}
use Rattle.listing.specs.Bases.{KeepsFitFactorRows, none, row, passed}

-- the rows among answers
abbrev pub fit : List (Result FactorRow Refusal) → List FactorRow
fit [] = []
fit (Ok r ∷ answers) = r ∷ fit answers
fit (Err f ∷ answers) = fit answers

pub fit_rows : (notes : List (List ℕ)) (answers : List (Result FactorRow Refusal)) → ReadsEachRow notes answers → KeepsFitFactorRows notes (fit answers)
fit_rows notes answers none_read = none
fit_rows notes answers (one_read {notes = others} {r = Ok r} {rs = rs} reads read) = row reads (fit_rows others rs read)
fit_rows notes answers (one_read {notes = others} {r = Err f} {rs = rs} reads read) = passed f reads (fit_rows others rs read)

fit_more : (answers : List (Result FactorRow Refusal)) (a : Result FactorRow Refusal) → fit (answers ++ (a ∷ [])) ≡ fit answers ++ fit (a ∷ [])
fit_more [] a = refl
fit_more (Ok r ∷ answers) a = ap (λ rs. r ∷ rs) (fit_more answers a)
fit_more (Err f ∷ answers) a = fit_more answers a

module _ (answers : List (Result FactorRow Refusal)) (i : ℕ) (d : Result FactorRow Refusal) (less : i < length answers) where
  next : fit (take (i + 1) answers) ≡ fit (take i answers) ++ fit (get_or answers i d ∷ [])
  next = ap fit (take_more answers i d less) ∙ fit_more (take i answers) (get_or answers i d)

  -- one more row, and one more refusal
  pub row_more : {r : FactorRow} → get_or answers i d ≡ Ok r → fit (take (i + 1) answers) ≡ fit (take i answers) ++ (r ∷ [])
  row_more is = next ∙ ap (λ a. fit (take i answers) ++ fit (a ∷ [])) is

  pub refusal_more : {f : Refusal} → get_or answers i d ≡ Err f → fit (take (i + 1) answers) ≡ fit (take i answers)
  refusal_more is = next ∙ ap (λ a. fit (take i answers) ++ fit (a ∷ [])) is ∙ append-nil (fit (take i answers))
