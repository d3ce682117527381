-- What headings of the given grams print.
use Rattle.std.specs.Prelude.{◌≡◌, ◌-◌, List, ◌++◌, length, map, replicate, ℤ, pos}
use Rattle.totals.specs.Sums.{Sums, grams_in, count_in, numbered_rows}
use Rattle.pages.specs.Cuts.{by_row}
use Rattle.pages.specs.Pages.{page_figures}

-- values of the first rows, and one value for all the others
abbrev pub in_rows : {X : Type 0} → X → List X → List X
in_rows rest xs = xs ++ replicate (22 - length xs) rest

-- one entry of the given grams in each of the first rows
abbrev pub one_in_each_row : List ℤ → Sums
one_in_each_row grams = record {
  grams = λ choice. grams_in choice (numbered_rows 1 (in_rows (pos 0) grams));
  counts = λ choice. count_in choice (numbered_rows 1 (in_rows 0 (map (λ g. 1) grams)));
}

-- a page by row prints the given kilograms for the given grams, and nothing for the other rows
abbrev pub Prints : (grams kilograms : List ℤ) → Type 0
Prints grams kilograms =
    map (λ f. f.kilograms) (page_figures by_row (one_in_each_row grams)) ≡ in_rows (pos 0) kilograms
