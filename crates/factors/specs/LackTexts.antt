-- The text of a lack.
use Rattle.std.specs.Prelude.{ℕ, List, ◌++◌, codes, decimal}

-- the code that is lacking
abbrev pub lack_text : ℕ → List ℕ
lack_text code = codes "lacking=" ++ decimal code
