-- Reading the first note of bytes, step by step.
use Rattle.std.proofs.Common.{◌≡◌, ℕ, ◌≤◌, List, ◌++◌, length, Some, Result, sym, ap, subst, arith}
use Rattle.refusals.specs.declared.refusal.Refusal.{Refusal}
use Rattle.refusals.specs.Refusals.{Conditions, GivesOrRefuses}
use Rattle.refusals.proofs.Deciding.{gives_after, gives_before}
use Rattle.feed.specs.declared.kind.Kind.{Kind}
use Rattle.feed.specs.Frames.{IsFramed, first_note}
use Rattle.feed.specs.Kinds.{kind_of_note, IsOfKind}
use Rattle.feed.specs.Readings.{framing_conditions, form_conditions, Reads}
use Rattle.feed.proofs.Framing.{one_first, framed_one, first_one}

-- the first note has at least the four bytes of its length and its kind
pub headed : {bs note : List ℕ} → IsFramed bs → note ≡ first_note bs → 4 ≤ length note
headed {bs} framed is = omega (arith, (one_first bs framed).head, ap length is)

module _ {X : Type 0} (Wanted : Kind → Type 0) (Value : List ℕ → X → Type 0) (bs : List ℕ) where
  -- the result for the first note of framed bytes is the result for the bytes
  pub reads_note : (r : Result X Refusal) {note : List ℕ} {kind : Kind} → IsFramed bs → note ≡ first_note bs → IsOfKind kind note → GivesOrRefuses (form_conditions Wanted (Some kind) note) (Value note) r → Reads Wanted Value bs r
  reads_note r {note} {kind} framed is of decided =
      gives_after (Value (first_note bs)) (framing_conditions bs) (form_conditions Wanted (kind_of_note (first_note bs)) (first_note bs)) (framed, tt) r
      (subst (λ n. GivesOrRefuses (form_conditions Wanted (kind_of_note n) n) (Value n) r) is (subst (λ k. GivesOrRefuses (form_conditions Wanted k note) (Value note) r) (sym of) decided))

  -- reading the first note alone gives the same as reading it in front of other bytes
  pub reads_alone : (r : Result X Refusal) → Reads Wanted Value bs r → IsFramed bs → Reads Wanted Value (first_note bs) r
  reads_alone r reads framed =
      let one = one_first bs framed in
      let asks : List ℕ → Conditions = λ note. form_conditions Wanted (kind_of_note note) note in
      subst (λ note. GivesOrRefuses (framing_conditions (first_note bs) ++ asks note) (Value note) r) (sym (first_one (first_note bs) one))
      (gives_after (Value (first_note bs)) (framing_conditions (first_note bs)) (asks (first_note bs)) (framed_one (first_note bs) one, tt) r
      (gives_before (Value (first_note bs)) (framing_conditions bs) (asks (first_note bs)) (framed, tt) r reads))
