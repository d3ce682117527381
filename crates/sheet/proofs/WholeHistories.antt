-- All the calls of a sheet: its sends one after the other, and what is promised of its page and its grade.
use Rattle.std.proofs.Common.{◌≡◌, ℕ, List, [], ◌∷◌, ◌++◌, take, map, reverse, Ok, Err, Result, IfOk, sym, refl, ap, ◌∙◌, subst}
use Rattle.std.proofs.lemmas.List.{reverse-append}
use Rattle.refusals.specs.declared.refusal.Refusal.{Refusal}
use Rattle.factors.specs.Maps.{FactorMap}
use Rattle.domain.specs.declared.building.BuildingNumbers.{BuildingNumbers}
use Rattle.pages.specs.declared.figure.Figure.{Figure}
use Rattle.pages.specs.Cuts.{Assignment}
use Rattle.sheet.specs.PageAndGrade.{send_events, SendsThenDraws}
use Rattle.sheet.specs.Histories.{DrawsPage, GivesGrade, grade_event, History, new, send, page, grade, sent_bytes}
use Rattle.sheet.specs.Laws.{IsLawfulPage, IsLawfulGrade}
use Rattle.sheet.specs.States.{State, new_state, Sends}
use Rattle.sheet.proofs.Lawful.{lawful}

-- the bytes of sends with their answers
sends_sendings : (answered : List (List ℕ × Result (Unit {0}) Refusal)) → sent_bytes (send_events answered) ≡ map (λ a. a.0) answered
sends_sendings [] = refl
sends_sendings (a ∷ answered) = ap (λ bytes. a.0 ∷ bytes) (sends_sendings answered)

pub bytes_are : (answered : List (List ℕ × Result (Unit {0}) Refusal)) (bytes : List (List ℕ)) → map (λ a. a.0) answered ≡ bytes → sent_bytes (send_events answered) ≡ bytes
bytes_are answered bytes e = sends_sendings answered ∙ e

-- the sheet after these sends, in this order, with no other call between them
pub record SoFar (b : BuildingNumbers) (factor_map : FactorMap) (bytes : List (List ℕ)) (s : State) : Type 0 where
  pub answered : List (List ℕ × Result (Unit {0}) Refusal)
  pub history : History b factor_map (send_events answered) s
  pub sent : map (λ a. a.0) answered ≡ reverse bytes

pub none_sent : {b : BuildingNumbers} {factor_map : FactorMap} {s : State} → s ≡ new_state b factor_map → SoFar b factor_map [] s
none_sent {b} {factor_map} is = record { answered = []; history = subst (History b factor_map []) (sym is) new; sent = refl }

pub one_sent : {b : BuildingNumbers} {factor_map : FactorMap} {before bytes : List (List ℕ)} {bs : List ℕ} {r : Result (Unit {0}) Refusal} {s t : State} → SoFar b factor_map before s → Sends s bs r t → bytes ≡ before ++ bs ∷ [] → SoFar b factor_map bytes t
one_sent {before = before} {bs = bs} {r = r} h step is =
    record { answered = (bs, r) ∷ h.answered; history = send h.history step; sent = ap (λ xs. bs ∷ xs) h.sent ∙ sym (ap reverse is ∙ reverse-append before (bs ∷ [])) }

module _ {b : BuildingNumbers} {factor_map : FactorMap} {bytes : List (List ℕ)} {cut : Assignment} {places : List Figure} {r : Result Figure Refusal} {after : List Figure} {n : ℕ} where
  -- after the last send, a page and a grade follow
  pub accounted : {before : List (List ℕ)} {s : State} → SoFar b factor_map before s → before ≡ bytes → DrawsPage s cut places r after → GivesGrade s n → SendsThenDraws b factor_map bytes cut places r after n
  accounted {s = s} h all pages grades = record { answered = h.answered; last = s; sent = h.sent ∙ ap reverse all; history = grade (page h.history pages) grades }

  pub grade_given : SendsThenDraws b factor_map bytes cut places r after n → IsLawfulGrade b factor_map (reverse bytes) n
  grade_given a = subst (λ bs. IsLawfulGrade b factor_map bs n) (bytes_are a.answered (reverse bytes) a.sent) ((lawful b factor_map a.history).grades [] _ n refl)

pub page_drawn : {b : BuildingNumbers} {factor_map : FactorMap} {bytes : List (List ℕ)} {cut : Assignment} {places : List Figure} {r : Result Figure Refusal} {after : List Figure} {n : ℕ} → SendsThenDraws b factor_map bytes cut places r after n → IfOk r (λ total. IsLawfulPage b.life factor_map (reverse bytes) cut (take cut.size after) total)
page_drawn {b = b} {factor_map = factor_map} {bytes = bytes} {cut = cut} {places = places} {r = Ok total} {after = after} {n = n} a =
    subst (λ bs. IsLawfulPage b.life factor_map bs cut (take cut.size after) total) (bytes_are a.answered (reverse bytes) a.sent)
    ((lawful b factor_map a.history).pages (grade_event n ∷ []) (send_events a.answered) cut total places after refl)
page_drawn {r = Err f} a = tt
