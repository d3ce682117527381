-- The result of booking an entry, step by step.
use Rattle.std.proofs.Common.{◌≡◌, ℕ, [], ◌∷◌, true, false, true≢false, Err, pos, refl, sym, ap, ◌∙◌, subst, arith}
use Rattle.exact.specs.Rounding.{rounded_quotient, IsWithinHalf}
use Rattle.refusals.specs.declared.lack_codes.LackCodes.{LackCodes}
use Rattle.refusals.specs.declared.refusal.Refusal.{Refusal}
use Rattle.refusals.specs.declared.refusal.Refusal.TheVariants.{FactorLacking, InvalidUnit, TooLarge}
use Rattle.refusals.specs.Refusals.{refusal_number, lack_number, AllHold, SomeFails, IsLeastFailing}
use Rattle.refusals.proofs.Deciding.{least_stop, least_on, least_failing, both_hold, number_absent}
use Rattle.domain.specs.declared.entry.Entry.{Entry}
use Rattle.domain.specs.declared.factor.FactorNumbers.{FactorNumbers}
use Rattle.factors.specs.Maps.{FactorMap, has}
use Rattle.booking.specs.declared.booking.Activity.{Activity}
use Rattle.booking.specs.Booking.{HasFactor, GivesFactor, amount_of, unit_of, own_conditions, IsActivity, factor, entry_product, exact_grams, factor_condition, unit_condition, product_condition, factor_conditions, booking_conditions, booked_line, Books}
use Rattle.booking.specs.Methods.{unit_fits}
use Rattle.booking.specs.Rows.{method}
use Rattle.booking.specs.Emissions.{product, IsProductInRange, exact_divisor, IsLineGrams}
use Rattle.booking.proofs.BookedEntries.{grams_kept, grams_near}

module _ (y : ℕ) (factor_map : FactorMap) (e : Entry) where
  -- where a condition on the entry alone fails, the refusal is the result; it is no lack
  pub itself_refused : (f : Refusal) → IsLeastFailing (own_conditions e) (refusal_number f) → Books y factor_map e (Err f)
  unfolding booking_conditions
  itself_refused f least = (
    least_stop (own_conditions e) (factor_conditions y factor_map e) (refusal_number f) refl least,
    λ lack. absurd (number_absent (own_conditions e) lack_number refl (subst (SomeFails (own_conditions e)) lack least.0)),
  )

  -- where the source lacks the factor, the lack is the result
  pub factor_refused : AllHold (own_conditions e) → (l : LackCodes) → GivesFactor (factor y factor_map e) e.head.code (Err l) → Books y factor_map e (Err (FactorLacking l))
  unfolding booking_conditions
  factor_refused kept l lack = (
    least_failing (own_conditions e) (unit_condition y factor_map e ∷ product_condition y factor_map e ∷ []) lack_number refl kept (λ h. subst HasFactor lack.1 h),
    λ _. (l.lacking, lack.1, ap (λ asked. asked ∷ l.lacking ∷ []) lack.0),
  )

-- the entry e keeps its own conditions, with the activity s, and its source has the factor f
pub record AtFactor (y : ℕ) (factor_map : FactorMap) (e : Entry) (s : Activity) (f : FactorNumbers) : Type 0 where
  pub activity : AllHold (own_conditions e) × IsActivity y e s
  pub found : factor_map e.head.code ≡ has f

-- the entry e keeps all conditions, and its booked emissions are g grams
pub record Calculated (y : ℕ) (factor_map : FactorMap) (e : Entry) (g : ℕ) : Type 0 where
  pub kept : AllHold (booking_conditions y factor_map e)
  pub grams : g ≡ (booked_line y factor_map e).grams
  pub range : IsLineGrams g
  pub near : IsWithinHalf (pos g) (exact_grams y factor_map e)

-- the product, as the code computes it
abbrev pub product_of : Activity → FactorNumbers → ℕ
product_of s f = product s.thousandths f.amount s.terms.multiplier

module _ {y : ℕ} {factor_map : FactorMap} {e : Entry} {s : Activity} {f : FactorNumbers} (x : AtFactor y factor_map e s f) where
  says : IsActivity y e s
  says = x.activity.1

  -- where a condition on its factor fails, other than its lack, the refusal is the result
  refuses : (r : Refusal) → (refusal_number r ≡ lack_number → ⊥) → IsLeastFailing (factor_conditions y factor_map e) (refusal_number r) → Books y factor_map e (Err r)
  unfolding booking_conditions
  refuses r other least = (least_on (own_conditions e) (factor_conditions y factor_map e) (refusal_number r) x.activity.0 least, λ lack. absurd (other lack))

  factor_known : (factor_condition y factor_map e).1
  factor_known = subst HasFactor (sym x.found) tt

  unit_is : unit_fits s.method f.unit ≡ unit_fits (method e.head.row) (unit_of (factor y factor_map e))
  unit_is i = unit_fits (says.method_is i) (unit_of (sym x.found i))

  product_is : product_of s f ≡ entry_product y factor_map e
  product_is i = product (says.counts i) (amount_of (sym x.found i)) (says.multiplies i)

  pub unit_refused : false ≡ unit_fits s.method f.unit → Books y factor_map e (Err InvalidUnit)
  unit_refused unfit =
      refuses InvalidUnit (λ lack. omega arith)
      (least_failing (factor_condition y factor_map e ∷ []) (product_condition y factor_map e ∷ []) (refusal_number InvalidUnit) refl (factor_known, tt) (λ fits. true≢false (sym (unfit ∙ unit_is ∙ fits))))

  module _ (fits : true ≡ unit_fits s.method f.unit) where
    unit_fit : (unit_condition y factor_map e).1
    unit_fit = sym (fits ∙ unit_is)

    pub product_refused : (IsProductInRange (product_of s f) → ⊥) → Books y factor_map e (Err TooLarge)
    product_refused large =
        refuses TooLarge (λ lack. omega arith)
        (least_failing (factor_condition y factor_map e ∷ unit_condition y factor_map e ∷ []) [] (refusal_number TooLarge) refl (factor_known, (unit_fit, tt)) (λ light. large (subst IsProductInRange (sym product_is) light)))

    pub calculated : {g : ℕ} → IsProductInRange (product_of s f) × (g ≡ rounded_quotient (product_of s f) (exact_divisor s.terms.divisor)) → Calculated y factor_map e g
    unfolding booking_conditions
    calculated {g} grams =
        let kept : AllHold (booking_conditions y factor_map e) = both_hold (own_conditions e) (factor_conditions y factor_map e) x.activity.0 (factor_known, (unit_fit, (subst IsProductInRange product_is grams.0, tt))) in
        let is : g ≡ (booked_line y factor_map e).grams = grams.1 ∙ (λ i. rounded_quotient (product_is i) (exact_divisor (says.divides i))) in
        record {
          kept = kept;
          grams = is;
          range = subst IsLineGrams (sym is) (grams_kept y factor_map e kept);
          near = subst (λ n. IsWithinHalf (pos n) (exact_grams y factor_map e)) (sym is) (grams_near y factor_map e kept);
        }
