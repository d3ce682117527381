-- The bounds of totals, and of what is drawn from them.
use Rattle.std.specs.Prelude.{ℕ, ◌*◌, ◌≤◌, ℤ, unsigned_abs}

-- the largest number of entries: that of the places in a book
abbrev pub max_count : ℕ
max_count = 512

-- the grams of 512 lines of the largest grams
abbrev pub max_total_grams : ℕ
max_total_grams = max_count * 100000000000000

-- within that size, on either side of zero
abbrev pub IsWithinTotals : ℤ → Type 0
IsWithinTotals w = unsigned_abs w ≤ max_total_grams
