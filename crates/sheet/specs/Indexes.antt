-- The index of a book: where the search for a number begins.
use Rattle.std.specs.Prelude.{◌≡◌, ℕ, ◌%◌, ◌<◌, ◌≤◌, List, length, map, replicate, set, slice_index, min}
use Rattle.totals.specs.Sizes.{max_count}
use Rattle.sheet.specs.declared.index.Index.{Index}
use Rattle.sheet.specs.Places.{PlaceNumbers}

-- how many remainders of numbers are told apart
abbrev pub remainders : ℕ
remainders = 4096

-- the place at which the search for the number k begins
abbrev pub search_start : Index → ℕ → ℕ
search_start index k = slice_index index.starts (k % remainders)

-- the index of a book with no place in use
abbrev pub new_index : Index
new_index = record { starts = replicate remainders max_count }

-- the index with the search for the number k now beginning at `at`, or before that if it did already
abbrev pub index_with : ℕ → ℕ → Index → Index
index_with k at index = record { starts = set index.starts (k % remainders) (min (search_start index k) at) }

-- the numbers of places
abbrev pub held_numbers : List PlaceNumbers → List ℕ
held_numbers held = map (λ t. t.number) held

-- no place before `start` has the number k
abbrev pub NoneBefore : ℕ → ℕ → List PlaceNumbers → Type 0
NoneBefore start k held = (i : ℕ) → i < length held → slice_index (held_numbers held) i ≡ k → start ≤ i

-- for no number does the search begin behind a place that has it
abbrev pub IsIndexOf : Index → List PlaceNumbers → Type 0
IsIndexOf index held = (k : ℕ) → NoneBefore (search_start index k) k held
