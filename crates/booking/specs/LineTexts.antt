-- The text of a booked line.
use Rattle.std.specs.Prelude.{ℕ, List, ◌++◌, codes, decimal}
use Rattle.std.specs.Fmt.{signed_decimal}
use Rattle.booking.specs.declared.line.BookedLine.{BookedLine}
use Rattle.booking.specs.Rows.{row_number, is_subtracted}
use Rattle.booking.specs.Emissions.{signed_grams}

-- the thousandths of a line, and its grams with their sign
abbrev pub line_text : BookedLine → List ℕ
line_text line =
    let grams = signed_grams (is_subtracted (row_number line.row)) line.grams in
    codes "thousandths=" ++ (decimal line.thousandths ++ (codes " grams=" ++ signed_decimal grams))
