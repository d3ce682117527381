-- How reading a project ends.
use Rattle.std.proofs.Common.{ℕ, ◌≤◌, List, [], length, Ok, Err, Result, refl}
use Rattle.refusals.specs.declared.refusal.Refusal.{Refusal}
use Rattle.refusals.specs.declared.refusal.Refusal.TheVariants.{FeedTooLong}
use Rattle.refusals.specs.Refusals.{refusal_number}
use Rattle.refusals.proofs.Deciding.{least_failing}
use Rattle.domain.specs.declared.building.Building.{Building}
use Rattle.domain.specs.declared.factor.FactorRow.{FactorRow}
use Rattle.domain.specs.Buildings.{numbers_of}
use Rattle.feed.specs.declared.opening.OpeningError.{OpeningError}
use Rattle.feed.specs.declared.opening.OpeningError.TheVariants.{Refused, OutOfMemory}
use Rattle.feed.specs.declared.reader.Reader.{Reader}
use Rattle.feed.specs.Feeds.{rest_of}
use Rattle.feed.specs.Openings.{IsOpening, ReadsOpening}
use Rattle.feed.specs.FactorRows.{ReadsEachRow}
use Rattle.report.specs.Projects.{project_parts, TakesFactorRows, GivesProject, too_long, no_building, row_refused, project, ReadsOwnFactorRows, ReadsProject}

module _ (feed : List ℕ) where
  pub refused_long : (length feed ≤ 65536 → ⊥) → GivesProject feed (Err FeedTooLong)
  refused_long long = too_long (least_failing [] [] (refusal_number FeedTooLong) refl tt long)

  module _ (short : length feed ≤ 65536) where
    -- without an opening there is no project
    pub not_opened : (e : OpeningError) → ReadsOpening feed (Err e) → ReadsProject feed (Err e)
    not_opened (Refused f) reads = no_building (short, tt) reads
    not_opened (OutOfMemory e) reads = tt

    module _ {b : Building} {answers : List (Result FactorRow Refusal)} {rest : Reader} (opened : IsOpening feed b answers rest) where
      -- nor is there one where a row is refused
      pub row_not_taken : (e : OpeningError) → ((notes : List (List ℕ)) → ReadsEachRow notes answers → ReadsOwnFactorRows notes (Err e)) → ReadsProject feed (Err e)
      row_not_taken (Refused f) own = row_refused (short, tt) opened.opens (own opened.notes opened.read)
      row_not_taken (OutOfMemory e) own = tt

      pub taken : (rows : List FactorRow) → ((notes : List (List ℕ)) → ReadsEachRow notes answers → TakesFactorRows [] notes (Ok rows)) → GivesProject feed (Ok (project_parts (numbers_of b) rows (rest_of rest)))
      taken rows own = project (short, tt) opened.opens (own opened.notes opened.read)
