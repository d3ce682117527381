-- The numbers in a note: unsigned, the lowest byte first.
use Rattle.std.specs.Prelude.{ℕ, ◌+◌, ◌*◌, List, [], ◌∷◌, take, drop}

-- the number that the bytes stand for: each byte counts 256 times as much as the one before
abbrev pub little_endian_number : List ℕ → ℕ
little_endian_number [] = 0
little_endian_number (b ∷ bs) = b + 256 * little_endian_number bs

-- the value of the n bytes that begin at the offset `at`
unfoldable pub field : List ℕ → ℕ → ℕ → ℕ
field bs at n = little_endian_number (take n (drop at bs))
