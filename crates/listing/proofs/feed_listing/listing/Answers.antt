use Rattle.feed.proofs.ReaderEnds.{fewer_left}
use Rattle.feed.proofs.ReaderLoop.{begun}
use Rattle.listing.specs.Bases.{basis_of}
use Rattle.listing.specs.Listings.{Lists, ListsFeed}
use Rattle.listing.proofs.ListingLoop.{line_more, last_more}
use Rattle.listing.proofs.OneListing.{listing_only}
use Rattle.listing.proofs.feed_listing.listing.Goals as goal

pub loop-part-init : goal.loop-part-init
loop-part-init c = begun (Lists (basis_of c.in_ok-basis.basis)) c.new-reader.ensures c.new-text.ensures.bytes

pub loop-part-smaller : goal.loop-part-smaller
loop-part-smaller c = fewer_left c.in-Some.ensures

pub loop-part-preserved : goal.loop-part-preserved
loop-part-preserved c =
    line_more (basis_of c.in_ok-basis.basis) c.loop-part.invariant c.in-Some.part c.next_note.new.self c.in-Some.ensures c.of-line.ensures.value c.in_ok-write.ensures.bytes

pub returns : goal.returns
returns c =
    let none = c.in_default.ensures in
    let lists = last_more (basis_of c.in_ok-basis.basis) c.loop-part.invariant c.next_note.new.self c.rest.result none.0 none.1 c.rest.ensures c.in_ok-append_last_line.ensures in
    let listing : ListsFeed c.args.feed.now _ = record { building = _; rows = _; begins = c.in_ok-basis.ensures; lists = lists } in
    record { value = listing; only = λ other more. listing_only more listing }
