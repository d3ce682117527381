-- What each turn of `send_all` keeps.
use Rattle.std.proofs.Common.{◌≡◌, ℕ, ◌+◌, ◌<◌, List, [], ◌∷◌, ◌++◌, length, map, reverse, Result, sym, refl, ap, ◌∙◌, subst, append-nil, arith}
use Rattle.std.proofs.lemmas.List.{reverse-append}
use Rattle.refusals.specs.declared.refusal.Refusal.{Refusal}
use Rattle.factors.specs.Maps.{FactorMap}
use Rattle.domain.specs.declared.building.BuildingNumbers.{BuildingNumbers}
use Rattle.feed.specs.declared.reader.Part.{Part}
use Rattle.feed.specs.declared.reader.Reader.{Reader}
use Rattle.feed.specs.Feeds.{part_bytes, rest_of, IsNewReader, HandsOut, IsRest, Stays}
use Rattle.feed.specs.Frames.{IsFramed}
use Rattle.feed.specs.Writing.{GrowsByText}
use Rattle.feed.proofs.ReaderLoop.{SoFar, begun, one_more, stays, all}
use Rattle.feed.proofs.ReaderLaw.{hands_note}
use Rattle.sheet.specs.PageAndGrade.{send_events}
use Rattle.sheet.specs.Histories.{History, new, send, sent_bytes}
use Rattle.sheet.specs.States.{State, new_state}
use Rattle.report.specs.ProjectReports.{SplitsIntoSends, ended, unframed, note, SendsAll}
use Rattle.report.specs.Calls.{history_text, send_text, WritesSend}

-- the number of sends among such calls
length_sends : (answered : List (List ℕ × Result (Unit {0}) Refusal)) → length (sent_bytes (send_events answered)) ≡ length answered
length_sends [] = refl
length_sends (a ∷ answered) = let e = length_sends answered in omega (arith, e)

abbrev pub Sendings : ℕ → ℕ → List ℕ → List (List ℕ) → Type 0
Sendings k at bs more = SplitsIntoSends bs more

-- what is sent of the bytes so far, and its text; the reader still has the rest
pub record SentSoFar (b : BuildingNumbers) (factor_map : FactorMap) (bytes : List ℕ) (r : Reader) (s : State) (written : List ℕ) : Type 0 where
  pub done : List (List ℕ)
  pub answered : List (List ℕ × Result (Unit {0}) Refusal)
  pub answers : map (λ a. a.0) answered ≡ reverse done
  pub history : History b factor_map (send_events answered) s
  pub same : written ≡ history_text (send_events answered)
  pub places : r.handed_out ≡ length answered
  pub so_far : SoFar Sendings 1 0 bytes r done

pub none_sent : {b : BuildingNumbers} {factor_map : FactorMap} {bytes : List ℕ} {r : Reader} {s : State} {written : List ℕ} → IsNewReader bytes r → s ≡ new_state b factor_map → written ≡ [] → SentSoFar b factor_map bytes r s written
none_sent start fresh empty =
    record { done = []; answered = []; answers = refl; history = rw fresh new; same = empty; places = start.notes; so_far = begun Sendings start refl }

module _ {b : BuildingNumbers} {factor_map : FactorMap} {bytes : List ℕ} {r : Reader} {s : State} {written : List ℕ} (old : SentSoFar b factor_map bytes r s written) where
  -- one part is sent, at its place
  module _ (p : Part) (place : p.place ≡ r.handed_out + 1) {t : State} {longer : List ℕ} (grows : GrowsByText (WritesSend s p.place (part_bytes p) t) written longer) where
    abbrev step : WritesSend s p.place (part_bytes p) t grows.text
    step = grows.says

    abbrev answered_more : List (List ℕ × Result (Unit {0}) Refusal)
    answered_more = (part_bytes p, step.answer) ∷ old.answered

    answers_more : map (λ a. a.0) answered_more ≡ reverse (old.done ++ (part_bytes p ∷ []))
    answers_more = ap (λ xs. part_bytes p ∷ xs) old.answers ∙ sym (reverse-append old.done (part_bytes p ∷ []))

    said_more : longer ≡ history_text (send_events answered_more)
    said_more =
        let count = length_sends old.answered in
        let places = old.places in
        let at : p.place ≡ length (sent_bytes (send_events old.answered)) + 1 = omega (arith, place, places, count) in
        grows.appended ∙ (λ i. old.same i ++ (step.written ∙ ap (λ k. send_text k step.answer) at) i)

    pub note_sent : {u : Reader} → HandsOut r p u → SentSoFar b factor_map bytes u t longer
    note_sent {u} hands =
        record {
          done = old.done ++ (part_bytes p ∷ []);
          answered = answered_more;
          answers = answers_more;
          history = send old.history step.step;
          same = said_more;
          places = let e = old.places in omega (arith, hands.notes, e);
          so_far = one_more Sendings old.so_far (part_bytes p ∷ []) hands refl (λ more h. note (part_bytes p) (rest_of u) (hands_note r p u hands) refl h);
        }

    -- the bytes that are left, which begin with no note, are sent last
    pub left_sent : (IsFramed (rest_of r) → ⊥) → IsRest r p → 0 < length (part_bytes p) → SendsAll b factor_map bytes t longer
    left_sent other is_left some =
        let none : IsFramed (part_bytes p) → ⊥ = subst (λ bs. IsFramed bs → ⊥) (sym is_left.bytes) other in
        record {
          sends = old.done ++ (part_bytes p ∷ []);
          sent = all Sendings old.so_far (subst (λ bs. SplitsIntoSends bs (part_bytes p ∷ [])) is_left.bytes (unframed some none)) refl;
          answered = answered_more;
          answers = answers_more;
          history = send old.history step.step;
          written = said_more;
        }

  -- where no byte is left, all is sent
  pub all_sent : rest_of r ≡ [] → SendsAll b factor_map bytes s written
  all_sent none =
      record {
        sends = old.done;
        sent = all Sendings old.so_far (ended none) (sym (append-nil old.done));
        answered = old.answered;
        answers = old.answers;
        history = old.history;
        written = old.same;
      }

  -- a reader that hands out no note is unchanged
  pub no_more : {u : Reader} → Stays r u → SentSoFar b factor_map bytes u s written
  no_more stay =
      record {
        done = old.done;
        answered = old.answered;
        answers = old.answers;
        history = old.history;
        same = old.same;
        places = stay.notes ∙ old.places;
        so_far = stays Sendings old.so_far stay;
      }
