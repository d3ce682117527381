-- The lines of a report.
use Rattle.std.specs.Prelude.{ℕ, ◌+◌, List, [], ◌∷◌, ◌++◌, codes, decimal}
use Rattle.std.specs.Fmt.{signed_decimal}
use Rattle.refusals.specs.declared.refusal.Refusal.{Refusal}
use Rattle.refusals.specs.Refusals.{refusal_number}
use Rattle.pages.specs.declared.figure.Figure.{Figure}
use Rattle.grades.specs.Grades.{grade_number}
use Rattle.report.specs.declared.report_line.ReportLine.{ReportLine}
use Rattle.report.specs.declared.report_line.ReportLine.TheVariants.{Denied, Heading, Total, Grade}

-- a refusal: its place among the sends, from 1, or 0 where it comes before them, and its number
abbrev pub denied_line : ℕ → Refusal → List ℕ
denied_line place f = codes "denied " ++ (decimal place ++ (codes " " ++ (decimal (refusal_number f) ++ codes "\n")))

-- a heading's kilograms and the number of its entries
abbrev pub figure_line : List ℕ → Figure → List ℕ
figure_line heading f =
    heading ++ (codes " " ++ (signed_decimal f.kilograms ++ (codes " " ++ (decimal f.count ++ codes "\n"))))

-- a line for each heading, the first of them with the number k
abbrev pub heading_lines : ℕ → List Figure → List ℕ
heading_lines k [] = []
heading_lines k (f ∷ fs) = figure_line (decimal k) f ++ heading_lines (k + 1) fs

-- a page: its headings, numbered from 1, and its total
abbrev pub page_lines : List Figure → Figure → List ℕ
page_lines figures total = heading_lines 1 figures ++ figure_line (codes "total") total

-- a grade, by its number
abbrev pub grade_line : ℕ → List ℕ
grade_line n = codes "grade " ++ (decimal n ++ codes "\n")

-- the text of a line
abbrev pub report_line_text : ReportLine → List ℕ
report_line_text (Denied place refusal) = denied_line place refusal
report_line_text (Heading heading figure) = figure_line (decimal heading) figure
report_line_text (Total figure) = figure_line (codes "total") figure
report_line_text (Grade grade) = grade_line (grade_number grade)
