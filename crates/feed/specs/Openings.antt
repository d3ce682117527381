-- The opening of a feed: its building, and the factor rows after it.
use Rattle.std.specs.Prelude.{ℕ, List, Ok, Err, Result, vec_items}
use Rattle.refusals.specs.declared.refusal.Refusal.{Refusal}
use Rattle.domain.specs.declared.building.Building.{Building}
use Rattle.domain.specs.declared.factor.FactorRow.{FactorRow}
use Rattle.feed.specs.declared.opening.Opening.{Opening}
use Rattle.feed.specs.declared.opening.OpeningError.{OpeningError}
use Rattle.feed.specs.declared.opening.OpeningError.TheVariants.{Refused, OutOfMemory}
use Rattle.feed.specs.declared.reader.Reader.{Reader}
use Rattle.feed.specs.Feeds.{ReaderAnswer, rest_of, ReaderHistory}
use Rattle.feed.specs.Frames.{rest_after_first}
use Rattle.feed.specs.Readings.{ReadsBuilding}
use Rattle.feed.specs.FactorRows.{StartsWithFactorRows, ReadsEachRow}

-- the first note of the feed is the building b, these notes of factor rows come after it, and this is left after them
pub record OpensWith (feed : List ℕ) (b : Building) (notes : List (List ℕ)) (left : List ℕ) : Type 0 where
  pub building : ReadsBuilding feed (Ok b)
  pub rows : StartsWithFactorRows (rest_after_first feed) notes left

-- the feed opens with the building b; reading the factor rows after it gives these results; and rest is a reader of the
-- feed that has handed out exactly the building and these rows
pub record IsOpening (feed : List ℕ) (b : Building) (answers : List (Result FactorRow Refusal)) (rest : Reader)
    : Type 0 where
  pub notes : List (List ℕ)
  pub opens : OpensWith feed b notes (rest_of rest)
  pub read : ReadsEachRow notes answers
  pub calls : List ReaderAnswer
  pub history : ReaderHistory feed calls rest

-- the error is that memory does not suffice
abbrev pub IsOutOfMemory : OpeningError → Type 0
IsOutOfMemory (Refused f) = ⊥
IsOutOfMemory (OutOfMemory e) = Unit {0}

-- r is the result of reading the opening of the feed; nothing is said where memory does not suffice
abbrev pub ReadsOpening : List ℕ → Result Opening OpeningError → Type 0
ReadsOpening feed (Ok o) = IsOpening feed o.building (vec_items o.rows) o.rest
ReadsOpening feed (Err (Refused f)) = ReadsBuilding feed (Err f)
ReadsOpening feed (Err (OutOfMemory e)) = Unit {0}
