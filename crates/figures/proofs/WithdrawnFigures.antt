-- The figures of a withdrawn number hold.
use Rattle.std.proofs.Common.{◌≡◌, ℕ, ◌<◌, List, [], ◌∷◌, ◌++◌, length, Some, Option, Ok, Err, Result, refl, inr, subst, arith}
use Rattle.std.specs.Result.{IsErrAnd}
use Rattle.refusals.specs.declared.refusal.Refusal.{Refusal}
use Rattle.refusals.specs.declared.refusal.Refusal.TheVariants.{Superseded, Contradicted, BookFull}
use Rattle.refusals.specs.Refusals.{refusal_number, answer_number, Conditions, AllHold, IsAnswerNumber}
use Rattle.refusals.proofs.Deciding.{least_failing, answered_least, number_unique, least_on, none_fails}
use Rattle.factors.specs.Maps.{FactorMap}
use Rattle.domain.specs.declared.entry.Entry.{Entry}
use Rattle.sheet.specs.RollNotes.{RollNote, note_place}
use Rattle.sheet.specs.Places.{PlaceNumbers}
use Rattle.sheet.specs.Placing.{IsNotSuperseded, Agrees, HasRoom, placing_conditions}
use Rattle.sheet.specs.Rolls.{numbers, IsRoll, empty, on_roll}
use Rattle.sheet.specs.States.{content_conditions, Sends}
use Rattle.sheet.proofs.RollSteps.{roll_counts}
use Rattle.figures.specs.Withdrawals.{withdrawal, entry_at, IsSentAs, IsRefusedBy, NoneCounts, CountsAt}

-- a fit note is listed while there is room
lists : (y : ℕ) (factor_map : FactorMap) {sends : List (List ℕ)} {roll : List RollNote} {n : RollNote} {bs : List ℕ} → IsRoll y factor_map sends roll → IsSentAs y factor_map n bs → length (numbers roll) < 512 → IsRoll y factor_map (bs ∷ sends) (n ∷ roll)
lists y factor_map {sends} {roll} {n} {bs} is sent few =
    subst (λ m. IsRoll y factor_map (bs ∷ sends) (m ∷ roll)) sent.says (on_roll bs is (λ u. none_fails (content_conditions y factor_map bs) sent.fit u.0 u.1) (inr few))

module _ (y : ℕ) (factor_map : FactorMap) (e : Entry) (cs : Conditions) (kept : AllHold cs) where
  -- the conditions on a note, with another one in the book
  abbrev book_conditions : RollNote → RollNote → Conditions
  book_conditions n m = placing_conditions (note_place y factor_map n ∷ []) (note_place y factor_map m)

  abbrev asks : RollNote → RollNote → Conditions
  asks n m = cs ++ book_conditions n m

  behind : IsAnswerNumber (asks withdrawal (entry_at 1 e)) 21
  behind =
      let late : PlaceNumbers = note_place y factor_map (entry_at 1 e) in
      let gone : Option PlaceNumbers = Some (note_place y factor_map withdrawal) in
      let rest : Conditions = (refusal_number Contradicted, Agrees late gone) ∷ ((refusal_number BookFull, HasRoom (1 ∷ []) 1) ∷ []) in
      answered_least (asks withdrawal (entry_at 1 e)) Superseded
      (least_on cs (book_conditions withdrawal (entry_at 1 e)) 21 kept (least_failing [] rest 21 {P = IsNotSuperseded late gone} refl tt (λ ahead. ahead.0 (omega arith))))

  by_number : (r : Result (Unit {0}) Refusal) → answer_number r ≡ 21 → IsErrAnd r (λ f. refusal_number f ≡ 21)
  by_number (Ok u) e = absurd (omega arith)
  by_number (Err f) e = e

  answer_of : {n m : RollNote} (r : Result (Unit {0}) Refusal) → n ≡ withdrawal → m ≡ entry_at 1 e → IsAnswerNumber (asks n m) (answer_number r) → IsErrAnd r (λ f. refusal_number f ≡ 21)
  answer_of {n} {m} r p q is =
      by_number r (number_unique (asks withdrawal (entry_at 1 e)) (subst (λ k. IsAnswerNumber (asks withdrawal k) (answer_number r)) q (subst (λ k. IsAnswerNumber (asks k m) (answer_number r)) p is)) behind)

pub refused : IsRefusedBy 1 21
refused b factor_map e gone late s t r gone_fit first late_fit step =
    let after = subst (λ x. Sends x late r t) first.accepted step in
    answer_of b.life factor_map e (content_conditions b.life factor_map late) late_fit.fit r gone_fit.says late_fit.says after.number

module _ (y : ℕ) (factor_map : FactorMap) (late : Entry) (gone back : List ℕ) (gone_fit : IsSentAs y factor_map withdrawal gone) (back_fit : IsSentAs y factor_map (entry_at 1 late) back) where
  two : IsRoll y factor_map (back ∷ (gone ∷ [])) (entry_at 1 late ∷ (withdrawal ∷ []))
  two = lists y factor_map (lists y factor_map empty gone_fit (omega arith)) back_fit (omega arith)

pub none_counts : NoneCounts 1
none_counts y factor_map e gone late gone_fit late_fit = roll_counts (two y factor_map e gone late gone_fit late_fit)

pub counts : CountsAt 1 3
counts y factor_map e new gone late next gone_fit late_fit next_fit =
    roll_counts (lists y factor_map (two y factor_map e gone late gone_fit late_fit) next_fit (omega arith))
