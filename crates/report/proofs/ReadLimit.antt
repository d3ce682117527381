-- The report of the bytes that are read of a feed is that of the feed.
use Rattle.std.proofs.Common.{ℕ, ◌<◌, ◌≤◌, List, [], length, take, refl, subst, ⊎_elim, arith}
use Rattle.refusals.specs.declared.refusal.Refusal.TheVariants.{FeedTooLong}
use Rattle.refusals.specs.Refusals.{refusal_number, IsLeastFailing}
use Rattle.refusals.proofs.Deciding.{least_failing, least_only}
use Rattle.feed.proofs.ReadLimit.{all_or_long}
use Rattle.report.specs.Projects.{length_conditions, too_long, no_building, row_refused, project}
use Rattle.report.specs.Reports.{IsReportText, denied, of_project}

too_long_least : (feed : List ℕ) → 65536 < length feed → IsLeastFailing (length_conditions feed) (refusal_number FeedTooLong)
too_long_least feed more = least_failing [] [] (refusal_number FeedTooLong) {P = length feed ≤ 65536} refl tt (λ few. omega arith)

-- two feeds that are both too long have the same report
long_only : (feed other text : List ℕ) → 65536 < length feed → 65536 < length other → IsReportText feed text → IsReportText other text
long_only feed other text more more' (denied (too_long least) is) = denied (too_long (subst (IsLeastFailing (length_conditions other)) (least_only (length_conditions feed) (refusal_number FeedTooLong) _ (too_long_least feed more) least) (too_long_least other more'))) is
long_only feed other text more more' (denied (no_building short reads) is) = absurd (omega (arith, short.0))
long_only feed other text more more' (denied (row_refused short opens takes) is) = absurd (omega (arith, short.0))
long_only feed other text more more' (of_project (project short opens takes) a) = absurd (omega (arith, short.0))

-- the report of the first 65,537 bytes, one more than a feed may have, is that of the feed
pub enough : (feed text : List ℕ) → IsReportText (take 65537 feed) text → IsReportText feed text
enough feed text reports =
    ⊎_elim (λ all. subst (λ bs. IsReportText bs text) all reports) (λ long. long_only (take 65537 feed) feed text long.0 long.1 reports) (all_or_long feed)
