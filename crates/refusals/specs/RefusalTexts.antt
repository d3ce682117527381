-- The text of a refusal.
use Rattle.std.specs.Prelude.{ℕ, List, [], ◌∷◌, ◌++◌, codes, decimal}
use Rattle.refusals.specs.declared.refusal.Refusal.{Refusal}
use Rattle.refusals.specs.Refusals.{refusal_number, refusal_codes}

-- both codes of a lack, by name
abbrev pub lack_codes_text : ℕ → ℕ → List ℕ
lack_codes_text asked lacking = codes "asked=" ++ (decimal asked ++ (codes " lacking=" ++ decimal lacking))

-- the codes that a refusal names, after a space; nothing where it names none
abbrev pub codes_text : List ℕ → List ℕ
codes_text [] = []
codes_text (asked ∷ []) = []
codes_text (asked ∷ lacking ∷ more) = codes " " ++ lack_codes_text asked lacking

-- the number of a refusal, and the codes that it names
abbrev pub refusal_text : Refusal → List ℕ
refusal_text f = codes "refused " ++ (decimal (refusal_number f) ++ codes_text (refusal_codes f))
