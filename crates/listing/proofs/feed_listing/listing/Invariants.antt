use Rattle.std.proofs.Common.{string_bytes}
use Rattle.feed.proofs.ReaderEnds.{bytes_left}
use Rattle.listing.specs.Bases.{basis_of}
use Rattle.listing.proofs.ListingLoop.{LinesSoFar}
use Rattle.listing.proofs.feed_listing.listing.Given as goal

abbrev pub invariant-loop-part : goal.invariant-loop-part
invariant-loop-part l = LinesSoFar (basis_of l.basis) l.feed l.reader (string_bytes l.text)

abbrev pub decreases-loop-part : goal.decreases-loop-part
decreases-loop-part l = bytes_left l.reader
