-- What follows from the number of a refusal.
use Rattle.std.proofs.Common.{◌≡◌, [], ◌++◌, codes, decimal, arith}
use Rattle.refusals.specs.declared.refusal.Refusal.{Refusal}
use Rattle.refusals.specs.declared.refusal.Refusal.TheVariants.{Unframed}
use Rattle.refusals.specs.Refusals.{refusal_number, refusal_codes}
use Rattle.refusals.specs.RefusalTexts.{codes_text, refusal_text}

pub number_one : (f : Refusal) → refusal_number f ≡ 1 → f ≡ Unframed
number_one f e = grind arith

-- only a lack names codes
pub no_codes : (f : Refusal) → (refusal_number f ≡ 8 → ⊥) → refusal_codes f ≡ []
no_codes f other = grind arith

-- the text of a refusal depends only on its number and its codes
pub same_words : (f g : Refusal) → refusal_number f ≡ refusal_number g → refusal_codes f ≡ refusal_codes g → refusal_text f ≡ refusal_text g
same_words f g number named i = codes "refused " ++ (decimal (number i) ++ codes_text (named i))
