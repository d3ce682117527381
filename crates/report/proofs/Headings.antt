-- The lines of headings, one after the other.
use Rattle.std.proofs.Common.{◌≡◌, ℕ, ◌+◌, ◌<◌, ◌≤◌, List, [], ◌∷◌, ◌++◌, length, get_or, take, codes, decimal, sym, ap, ◌∙◌, append_assoc, append-nil, arith}
use Rattle.std.proofs.lemmas.List.{take_more, take_all, length-take-le}
use Rattle.pages.specs.declared.figure.Figure.{Figure}
use Rattle.report.specs.ReportLines.{figure_line, heading_lines, page_lines}

-- the lines with one more heading
heading_more : (k : ℕ) (fs : List Figure) (f : Figure) → heading_lines k (fs ++ (f ∷ [])) ≡ heading_lines k fs ++ figure_line (decimal (k + length fs)) f
heading_more k [] f = let at : k ≡ k + 0 = omega arith in append-nil (figure_line (decimal k) f) ∙ ap (λ n. figure_line (decimal n) f) at
heading_more k (x ∷ fs) f =
    let at : k + 1 + length fs ≡ k + length (x ∷ fs) = omega arith in
    ap (λ t. figure_line (decimal k) x ++ t) (heading_more (k + 1) fs f ∙ ap (λ n. heading_lines (k + 1) fs ++ figure_line (decimal n) f) at)
    ∙ sym (append_assoc (figure_line (decimal k) x) (heading_lines (k + 1) fs) (figure_line (decimal (k + length (x ∷ fs))) f))

-- the lines of the first k headings, and the next one
pub heading_next : (fs : List Figure) (k : ℕ) (d : Figure) → k < length fs → heading_lines 1 (take k fs) ++ figure_line (decimal (k + 1)) (get_or fs k d) ≡ heading_lines 1 (take (k + 1) fs)
heading_next fs k d less =
    let at : 1 + length (take k fs) ≡ k + 1 = omega (arith, length-take-le k fs (omega (arith, less))) in
    ap (λ n. heading_lines 1 (take k fs) ++ figure_line (decimal n) (get_or fs k d)) (sym at)
    ∙ sym (ap (heading_lines 1) (take_more fs k d less) ∙ heading_more 1 (take k fs) (get_or fs k d))

-- the lines of all headings, and the total's
pub page_ended : (fs : List Figure) (total : Figure) (k : ℕ) → length fs ≤ k → heading_lines 1 (take k fs) ++ figure_line (codes "total") total ≡ page_lines fs total
page_ended fs total k all = ap (λ fs. heading_lines 1 fs ++ figure_line (codes "total") total) (take_all k fs all)
