-- Booking an entry has one result.
use Rattle.std.proofs.Common.{◌≡◌, ℕ, Err, Result, sym, ◌∙◌, ⊎_elim}
use Rattle.std.proofs.lemmas.Bool.Decides.{eqb_tells}
use Rattle.factors.specs.Maps.{FactorMap}
use Rattle.refusals.specs.declared.refusal.Refusal.{Refusal}
use Rattle.refusals.specs.Refusals.{refusal_number, lack_number, refusal_codes}
use Rattle.refusals.proofs.Deciding.{SameAnswer, answer_unique}
use Rattle.refusals.proofs.RefusalNumbers.{no_codes}
use Rattle.domain.specs.declared.entry.Entry.{Entry}
use Rattle.booking.specs.declared.line.BookedLine.{BookedLine}
use Rattle.booking.specs.Booking.{line_numbers, booking_conditions, booked_line, Books}

module _ (y : ℕ) (factor_map : FactorMap) (e : Entry) where
  pub books_once : (p q : Result BookedLine Refusal) → Books y factor_map e p → Books y factor_map e q → SameAnswer (λ l m. line_numbers l ≡ line_numbers m) p q
  books_once p q a b =
      let is_booked = λ (l : BookedLine). line_numbers l ≡ booked_line y factor_map e in
      answer_unique (booking_conditions y factor_map e) is_booked is_booked (λ l m. line_numbers l ≡ line_numbers m) (λ l m is is'. is ∙ sym is') p q a.0 b.0

  -- two refusals of one entry with the same number name the same codes
  pub same_codes : (f g : Refusal) → refusal_number f ≡ refusal_number g → Books y factor_map e (Err f) → Books y factor_map e (Err g) → refusal_codes f ≡ refusal_codes g
  same_codes f g same a b =
      ⊎_elim (λ lack. let p = a.1 lack.1 in let q = b.1 (sym same ∙ lack.1) in cc (p.1, p.2, q.1, q.2))
      (λ other. no_codes f other.1 ∙ sym (no_codes g (λ e. other.1 (same ∙ e))))
      (eqb_tells (refusal_number f) lack_number)
