-- What each turn of `listing` keeps.
use Rattle.std.proofs.Common.{◌≡◌, ℕ, List, ◌++◌, refl}
use Rattle.feed.specs.declared.reader.Part.{Part}
use Rattle.feed.specs.declared.reader.Reader.{Reader}
use Rattle.feed.specs.Feeds.{part_bytes, rest_of, HandsOut, Stays, IsRest}
use Rattle.feed.specs.Frames.{IsFramed}
use Rattle.feed.specs.Writing.{GrowsByText}
use Rattle.feed.proofs.ReaderLoop.{SoFar, one_more, stays, all}
use Rattle.feed.proofs.ReaderLaw.{hands_note}
use Rattle.listing.specs.Bases.{Basis}
use Rattle.listing.specs.ListingLines.{IsPartLine}
use Rattle.listing.specs.Listings.{IsLastPartLine, Lists, note, last}

-- the lines so far
abbrev pub LinesSoFar : Basis → List ℕ → Reader → List ℕ → Type 0
LinesSoFar a feed r listing = SoFar (Lists a) 1 0 feed r listing

module _ (a : Basis) {feed : List ℕ} {r : Reader} {listing : List ℕ} (old : SoFar (Lists a) 1 0 feed r listing) where
  -- one more note, whose line is appended
  pub line_more : (p : Part) (t : Reader) {line longer : List ℕ} → HandsOut r p t → IsPartLine a p line → longer ≡ listing ++ line → SoFar (Lists a) 1 0 feed t longer
  line_more p t {line} hands is_line appended =
      one_more (Lists a) old line hands appended (λ more h. note (part_bytes p) (rest_of t) line more (hands_note r p t hands) refl is_line h refl)

  -- no more notes: the last line is appended
  pub last_more : (t : Reader) (left : Part) {longer : List ℕ} → Stays r t → (IsFramed (rest_of t) → ⊥) → IsRest t left → GrowsByText (IsLastPartLine a left) listing longer → Lists a 1 0 feed longer
  last_more t left stay other is_left line =
      all (Lists a) (stays (Lists a) old stay) (last other (rw (← is_left.bytes, ← is_left.place, ← is_left.start) line.says)) line.appended
