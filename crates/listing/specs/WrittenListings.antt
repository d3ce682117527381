-- What is written for a feed: its listing, or the refusal of one that is too long.
use Rattle.std.specs.Prelude.{◌≡◌, ℕ, ◌<◌, ◌≤◌, List, ◌++◌, length, codes}
use Rattle.refusals.specs.declared.refusal.Refusal.TheVariants.{FeedTooLong}
use Rattle.refusals.specs.RefusalTexts.{refusal_text}
use Rattle.listing.specs.Listings.{ListsFeed}
use Rattle.feed.specs.Writing.{IsOnlyText}
use Rattle.feed.specs.declared.input.TheConstants.{MAX_FEED_BYTES}

-- text is written for a feed: its listing, or one line with the refusal where it is too long
pub record ListsOrRefuses (feed text : List ℕ) : Type 0 where
  pub listed : length feed ≤ MAX_FEED_BYTES → ListsFeed feed text
  pub refused : MAX_FEED_BYTES < length feed → text ≡ refusal_text FeedTooLong ++ codes "\n"

-- text is written for a feed, and no other text is
pub record IsListing (feed text : List ℕ) : Type 0 where
  pub lists : ListsOrRefuses feed text
  pub only : IsOnlyText (ListsOrRefuses feed) text
