-- What is written for the bytes that are read of a feed is what is written for the feed, and nothing else is.
use Rattle.std.proofs.Common.{◌≡◌, ℕ, ◌<◌, ◌≤◌, List, length, take, sym, ◌∙◌, subst, ⊎_elim, arith}
use Rattle.std.proofs.str.Laws.{order}
use Rattle.feed.proofs.ReadLimit.{all_or_long}
use Rattle.listing.proofs.OneListing.{listing_only}
use Rattle.listing.specs.WrittenListings.{ListsOrRefuses, IsListing}

-- two feeds that are both too long have the same text
long_only : (feed other text : List ℕ) → 65536 < length feed → 65536 < length other → ListsOrRefuses feed text → ListsOrRefuses other text
long_only feed other text more more' lists = record { listed = λ few. absurd (omega (arith, more', few)); refused = λ many. lists.refused more }

-- what is written for the first 65,537 bytes, one more than a feed may have, is what is written for the feed
enough : (feed text : List ℕ) → ListsOrRefuses (take 65537 feed) text → ListsOrRefuses feed text
enough feed text lists =
    ⊎_elim (λ all. subst (λ bs. ListsOrRefuses bs text) all lists) (λ long. long_only (take 65537 feed) feed text long.0 long.1 lists) (all_or_long feed)

-- one text is written for a feed
one_text : {feed text other : List ℕ} → ListsOrRefuses feed text → ListsOrRefuses feed other → other ≡ text
one_text {feed} lists lists' =
    ⊎_elim (λ short. let few : length feed ≤ 65536 = omega (arith, short) in listing_only (lists'.listed few) (lists.listed few))
    (λ long. let many : 65536 < length feed = omega (arith, long) in lists'.refused many ∙ sym (lists.refused many))
    (order (length feed) 65537)

pub is_listing : (feed text : List ℕ) → ListsOrRefuses (take 65537 feed) text → IsListing feed text
is_listing feed text lists = let whole = enough feed text lists in record { lists = whole; only = λ other more. one_text whole more }
