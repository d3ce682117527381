-- The listing of a feed.
use Rattle.std.specs.Prelude.{◌≡◌, ℕ, ◌+◌, ◌<◌, List, [], ◌++◌, length, codes, Option}
use Rattle.domain.specs.declared.building.Building.{Building}
use Rattle.domain.specs.declared.factor.FactorRow.{FactorRow}
use Rattle.feed.specs.Frames.{IsFramed, IsOneNote}
use Rattle.domain.specs.FieldTexts.{spaced_field}
use Rattle.listing.specs.ListingLines.{IsLine}
use Rattle.listing.specs.Bases.{Basis, HasBasis, basis_with}
use Rattle.feed.specs.Feeds.{part_bytes}
use Rattle.feed.specs.declared.reader.Part.{Part}

-- the last line, for the bytes left after the last note: that there are none, or why they are refused
pub record IsLastLine (a : Basis) (k at : ℕ) (bs line : List ℕ) : Type 0 where
  pub none : bs ≡ [] → line ≡ codes "end" ++ (spaced_field (codes "at", at) ++ codes "\n")
  pub some : 0 < length bs → IsLine a k at bs line

-- the last line, for the part of the feed that is left
abbrev pub IsLastPartLine : Basis → Part → List ℕ → Type 0
IsLastPartLine a p line = IsLastLine a p.place p.start (part_bytes p) line

-- the listing, on a basis, of the bytes at the place k, with `at` bytes of the feed before them: a line for each note,
-- and the last line
pub data Lists (a : Basis) : ℕ → ℕ → List ℕ → List ℕ → Type 0 where
  note : {k at : ℕ} {bs text : List ℕ} (n rest line more : List ℕ) → IsOneNote n → bs ≡ n ++ rest
      → IsLine a k at n line → Lists a (k + 1) (at + length n) rest more → text ≡ line ++ more → Lists a k at bs text
  last : {k at : ℕ} {bs text : List ℕ} → (IsFramed bs → ⊥) → IsLastLine a k at bs text → Lists a k at bs text

-- the listing of a feed, with its entries booked by what it begins with
pub record ListsFeed (feed text : List ℕ) : Type 0 where
  pub building : Option Building
  pub rows : List FactorRow
  pub begins : HasBasis feed building rows
  pub lists : Lists (basis_with building rows) 1 0 feed text
