use Rattle.std.proofs.Common.{Ok, Err, sym, subst}
use Rattle.feed.specs.FactorRows.{ReadsEachRow}
use Rattle.feed.proofs.FirstNote.{building_once}
use Rattle.listing.specs.Bases.{building, no_building}
use Rattle.listing.proofs.basis.BookingBasis.read.Goals as goal

pub returns-in_ok-fit_rows-in-Ok : goal.returns-in_ok-fit_rows-in-Ok
returns-in_ok-fit_rows-in-Ok c =
    let opened = c.in-Ok.ensures in
    building c.in-Ok.opening.building opened.opens (c.in_ok-fit_rows-in-Ok.ensures opened.notes (subst (ReadsEachRow opened.notes) (sym c.as_slice.ensures.value) opened.read))

pub returns-in-Err-Refused : goal.returns-in-Err-Refused
returns-in-Err-Refused c =
    let feed = c.args.feed.now in
    rw c.new.ensures.items (no_building (λ b reads. building_once feed (Ok b) (Err c.in-Err-Refused.field-0-0) reads (rw c.in-Err-Refused.field-0-is at c.in-Err-Refused.ensures)))
