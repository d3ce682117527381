use Rattle.std.proofs.Common.{ap, ◌∙◌, map, sym}
use Rattle.sheet.specs.LineSums.{held_lines, sums_of_lines}
use Rattle.sheet.specs.Places.{place_numbers}
use Rattle.sheet.proofs.LineTotals.{none_tallied, all_tallied, as_added, passed, sum_fits, added_line}
use Rattle.sheet.proofs.book.Book.totals.Goals as goal
use Rattle.sheet.proofs.book.Book.totals.Goals.{in-Some, in_default}

pub loop-place-init : goal.loop-place-init
loop-place-init c = none_tallied c.used_places-places.result.now

pub overflow_add-grams : goal.overflow_add-grams
overflow_add-grams c =
    let line = as_added c.in-Some.line c.in-Some.ensures c.index-row.ensures c.signed_grams.ensures in
    sum_fits c.loop-place.invariant c.loop-place-test.true c.used_places-places.ensures.few line

pub loop-place-preserved : goal.loop-place-preserved
loop-place-preserved c =
    elim c.match-line.branch [
      | in-Some w ↦
          let line = as_added w.in-Some.line w.in-Some.ensures w.index-row.ensures w.signed_grams.ensures in
          added_line c.loop-place.invariant c.loop-place-test.true c.used_places-places.ensures.few line w.grams-is w.counts-is
      | in_default w ↦ rw (w.grams-is, w.counts-is) (passed c.loop-place.invariant c.loop-place-test.true (sym w.in_default.ensures))
    ]

pub returns : goal.returns
returns c = all_tallied c.loop-place.invariant c.loop-place-test.false ∙ ap (λ places. sums_of_lines (held_lines (map place_numbers places))) c.used_places-places.ensures.value
