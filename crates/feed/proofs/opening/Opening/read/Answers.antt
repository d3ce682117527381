use Rattle.std.proofs.Common.{sym, subst}
use Rattle.feed.specs.Feeds.{ReaderHistory, opened, called}
use Rattle.feed.proofs.FirstNote.{first_passed}
use Rattle.feed.proofs.ReaderEnds.{fewer_left}
use Rattle.feed.proofs.FactorRows.{no_rows_yet, row_more, no_row_more}
use Rattle.feed.proofs.opening.Opening.read.Goals as goal

pub loop-note-init : goal.loop-note-init
loop-note-init c = no_rows_yet c.try_next.new.self (called (opened c.new-rest.ensures) c.try_next.ensures.value) c.new-rows.ensures.items

pub loop-note-smaller : goal.loop-note-smaller
loop-note-smaller c = fewer_left c.in-Some.ensures.1

pub loop-note-preserved : goal.loop-note-preserved
loop-note-preserved c = row_more c.loop-note.invariant c.read_factor_row.result c.in-Some.ensures c.read_factor_row.ensures.value c.in_ok-push.ensures.items

pub returns : goal.returns
returns c =
    let reads = c.in_ok-building.ensures.value in
    let found = no_row_more c.loop-note.invariant c.in_default.ensures in
    let passed = first_passed c.try_next.result c.try_next.new.self c.new-rest.ensures c.try_next.ensures.value reads.0.0 in
    record {
      notes = found.notes;
      opens = record { building = reads; rows = rw passed at found.rows };
      read = found.read;
      calls = c.loop-note.invariant.calls;
      history = subst (ReaderHistory c.args.feed.now c.loop-note.invariant.calls) (sym c.in_default.ensures.1) c.loop-note.invariant.history;
    }
