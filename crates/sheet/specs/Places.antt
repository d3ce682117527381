-- The places of a book, by their numbers.
use Rattle.std.specs.Prelude.{◌≡◌, ℕ, ◌+◌, ◌<◌, ◌⊎◌, List, length, set, take, map, Some, None, Option}
use Rattle.booking.specs.Booking.{LineNumbers}
use Rattle.booking.specs.Rows.{row_number}
use Rattle.sheet.specs.declared.book.Book.{Book}
use Rattle.sheet.specs.declared.place.PlaceContent.{PlaceContent}
use Rattle.sheet.specs.declared.place.PlaceContent.TheVariants.{Withdrawn, Entry}
use Rattle.sheet.specs.declared.place.Place.{Place}
use Rattle.sheet.specs.declared.record.LineRecord.{LineRecord}

-- a place in use; it has no line where its number was withdrawn
pub record PlaceNumbers : Type 0 where
  pub number : ℕ
  pub revision : ℕ
  pub line : Option LineNumbers

-- a record by its numbers
abbrev pub record_numbers : LineRecord → LineNumbers
record_numbers r = record {
  row = row_number r.row;
  span = r.span;
  code = r.code;
  thousandths = r.thousandths;
  grams = r.grams;
}

-- the line of a place's content, if it is an entry
abbrev pub content_line : PlaceContent → Option LineNumbers
content_line Withdrawn = None
content_line (Entry r) = Some (record_numbers r)

-- a place by its numbers
abbrev pub place_numbers : Place → PlaceNumbers
place_numbers p = record { number = p.number; revision = p.revision; line = content_line p.content }

-- one place is set to `new`, and every other place is unchanged; it was in use before, or is the next one
pub record ChangesOnePlace (new : Place) (before after : Book) : Type 0 where
  pub at : ℕ
  pub within : at < length before.places
  pub places : after.places ≡ set before.places at new
  pub used : ((at < before.used) × (after.used ≡ before.used)) ⊎ ((at ≡ before.used) × (after.used ≡ before.used + 1))

-- the places in use
abbrev pub used_places : Book → List Place
used_places book = take book.used book.places

-- the places in use, by their numbers
abbrev pub book_places : Book → List PlaceNumbers
book_places book = map place_numbers (used_places book)
