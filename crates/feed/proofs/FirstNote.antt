-- The first note of bytes, whether read or refused, and what is left after it.
use Rattle.std.proofs.Common.{◌≡◌, ℕ, List, length, Some, None, Ok, Err, Result, sym, ap, ◌∙◌, subst, arith}
use Rattle.domain.specs.declared.building.Building.{Building}
use Rattle.domain.specs.declared.factor.FactorRow.{FactorRow}
use Rattle.feed.specs.declared.reader.Part.{Part}
use Rattle.feed.specs.declared.reader.Reader.{Reader}
use Rattle.domain.specs.Buildings.{numbers_of}
use Rattle.feed.specs.BuildingFields.{IsBuilding}
use Rattle.feed.specs.declared.kind.Kind.TheVariants.{Building as BuildingNote, Factor as FactorNote}
use Rattle.feed.specs.FactorFields.{IsFactorRow}
use Rattle.feed.specs.Feeds.{ReaderAnswer, rest_of, IsNewReader, HandsOut, AnswersNext}
use Rattle.feed.specs.Frames.{IsFramed, first_note, rest_after_first}
use Rattle.feed.specs.Readings.{ReadsBuilding, ReadsFactorRow, reading_conditions}
use Rattle.feed.proofs.ReaderLaw.{hands_left}
use Rattle.refusals.specs.declared.refusal.Refusal.{Refusal}
use Rattle.refusals.proofs.Deciding.{SameAnswer, answer_unique}

-- reading a building has one result, and so has reading a factor row
pub building_once : (bs : List ℕ) (r s : Result Building Refusal) → ReadsBuilding bs r → ReadsBuilding bs s → SameAnswer (λ b c. numbers_of b ≡ numbers_of c) r s
building_once bs = answer_unique (reading_conditions (λ kind. kind ≡ BuildingNote) bs) (IsBuilding (first_note bs)) (IsBuilding (first_note bs)) (λ b c. numbers_of b ≡ numbers_of c) (λ b c is is'. is ∙ sym is')

pub row_once : (bs : List ℕ) (r s : Result FactorRow Refusal) → ReadsFactorRow bs r → ReadsFactorRow bs s → SameAnswer ◌≡◌ r s
row_once bs = answer_unique (reading_conditions (λ kind. kind ≡ FactorNote) bs) (IsFactorRow (first_note bs)) (IsFactorRow (first_note bs)) ◌≡◌ (λ a b is is'. is ∙ sym is')

-- where what is left begins with a note, a reader hands it out
pub handed_out : (r : Reader) (a : ReaderAnswer) (t : Reader) → AnswersNext r a t → IsFramed (rest_of r) → (p : Part) × HandsOut r p t
handed_out r (Ok (Some p)) t step framed = (p, step)
handed_out r (Ok None) t step framed = let e = ap length step.0 in absurd (omega (arith, framed.head))
handed_out r (Err f) t step framed = absurd (step.0.1 framed)

-- after the first call of a reader over a feed that has a first note, what comes after that note is left
pub first_passed : {feed : List ℕ} {r : Reader} (a : ReaderAnswer) (t : Reader) → IsNewReader feed r → AnswersNext r a t → IsFramed feed → rest_of t ≡ rest_after_first feed
first_passed {feed} {r} a t start step framed =
    let all : rest_of r ≡ feed = rw (start.bytes, start.over) in
    let hands = handed_out r a t step (subst IsFramed (sym all) framed) in
    hands_left r hands.0 t hands.1 ∙ ap rest_after_first all
