-- A feed has one report.
use Rattle.std.proofs.Common.{◌≡◌, ℕ, ◌+◌, List, [], ◌∷◌, ◌++◌, length, get_or, drop, map, reverse, take, codes, decimal, Ok, Err, Result, IfOk, String, string_bytes, sym, refl, ap, ◌∙◌, subst, arith}
use Rattle.std.proofs.lemmas.Result.{IfOk-weaker}
use Rattle.std.specs.declared.alloc.AllocError.{AllocError}
use Rattle.std.specs.declared.alloc.Global.{Global}
use Rattle.refusals.specs.declared.refusal.Refusal.{Refusal}
use Rattle.refusals.specs.Refusals.{refusal_number}
use Rattle.refusals.proofs.Deciding.{SameAnswer, answer_unique, least_only, none_fails, number_unique, above_zero}
use Rattle.factors.specs.Maps.{FactorMap}
use Rattle.domain.specs.declared.building.BuildingNumbers.{BuildingNumbers}
use Rattle.domain.specs.declared.factor.FactorRow.{FactorRow}
use Rattle.domain.specs.Buildings.{numbers_of}
use Rattle.feed.specs.FactorFields.{IsFactorRow}
use Rattle.domain.specs.declared.building.Building.{Building}
use Rattle.feed.specs.Frames.{IsFramed, IsOneNote, first_note, rest_after_first}
use Rattle.feed.specs.Openings.{OpensWith}
use Rattle.feed.proofs.FirstNote.{building_once}
use Rattle.feed.proofs.Framing.{framed_front, front_only}
use Rattle.feed.proofs.FactorRows.{rows_only}
use Rattle.sheet.specs.States.{State, send_conditions, Sends}
use Rattle.sheet.specs.PageAndGrade.{send_events}
use Rattle.sheet.proofs.WholeHistories.{bytes_are}
use Rattle.sheet.specs.Histories.{History, page_event, grade_event, new, send, page, grade, sent_bytes, DrawsPage, GivesGrade}
use Rattle.grades.proofs.OneGrade.{one_grade}
use Rattle.factors.specs.Layers.{project_map}
use Rattle.pages.specs.declared.figure.Figure.{Figure}
use Rattle.pages.specs.Cuts.{by_stage}
use Rattle.pages.proofs.WrittenPlaces.{shown}
use Rattle.report.specs.ProjectReports.{SplitsIntoSends, ended as all_sent, unframed, note, IsProjectReport, EndsLawfully}
use Rattle.report.specs.Calls.{history_text, send_text}
use Rattle.report.specs.ReportLines.{denied_line, page_lines, grade_line}
use Rattle.report.specs.Reports.{IsReportText, denied, of_project, IsLawfulReport, IsReport}
use Rattle.report.proofs.ProjectTexts.{concludes}
use Rattle.report.specs.Projects.{length_conditions, factor_row_conditions, ReadsFactorRowAfter, ProjectParts, project_parts, TakesFactorRows, all, row, refused, GivesProject, too_long, no_building, row_refused, project}

-- bytes that begin with a note are framed
begins : (n rest bs : List ℕ) → IsOneNote n → bs ≡ n ++ rest → IsFramed bs
begins n rest bs one cut = subst IsFramed (sym cut) (framed_front n rest one)

not_empty : (bs : List ℕ) → IsFramed bs → bs ≡ [] → ⊥
not_empty bs framed none = let e = ap length none in omega (arith, framed.head, e)

sends_of_only : (bs : List ℕ) (a b : List (List ℕ)) → SplitsIntoSends bs a → SplitsIntoSends bs b → a ≡ b
sends_of_only bs a b (all_sent none) (all_sent none') = refl
sends_of_only bs a b (all_sent none) (unframed some other) = let e = ap length none in absurd (omega (arith, some, e))
sends_of_only bs a b (all_sent none) (note n rest one cut more) = absurd (not_empty bs (begins n rest bs one cut) none)
sends_of_only bs a b (unframed some other) (all_sent none) = let e = ap length none in absurd (omega (arith, some, e))
sends_of_only bs a b (unframed some other) (unframed some' other') = refl
sends_of_only bs a b (unframed some other) (note n rest one cut more) = absurd (other (begins n rest bs one cut))
sends_of_only bs a b (note n rest one cut more) (all_sent none) = absurd (not_empty bs (begins n rest bs one cut) none)
sends_of_only bs a b (note n rest one cut more) (unframed some other) = absurd (other (begins n rest bs one cut))
sends_of_only bs a b (note {more = xs} n rest one cut more) (note {more = ys} n' rest' one' cut' more') =
    let same = front_only n rest n' rest' one one' (sym cut ∙ cut') in
    (λ i. same.0 i ∷ sends_of_only rest xs ys more (subst (λ m. SplitsIntoSends m ys) (sym same.1) more') i)

row_once : (n : ℕ) (bs : List ℕ) (r s : Result FactorRow Refusal) → ReadsFactorRowAfter n bs r → ReadsFactorRowAfter n bs s → SameAnswer ◌≡◌ r s
row_once n bs = answer_unique (factor_row_conditions n bs) (IsFactorRow (first_note bs)) (IsFactorRow (first_note bs)) ◌≡◌ (λ a b is is'. is ∙ sym is')

takes_only : (rows : List FactorRow) (notes : List (List ℕ)) (a b : Result (List FactorRow) Refusal) → TakesFactorRows rows notes a → TakesFactorRows rows notes b → SameAnswer ◌≡◌ a b
takes_only rows notes a b all all = refl
takes_only rows notes a b (row {note = n} {notes = ns} x reads more) (row y reads' more') =
    let same = row_once (length rows) n (Ok x) (Ok y) reads reads' in
    takes_only (rows ++ (x ∷ [])) ns a b more (subst (λ z. TakesFactorRows (rows ++ (z ∷ [])) ns b) (sym same) more')
takes_only rows notes a b (row {note = n} x reads more) (refused {f = f} reads') = absurd (row_once (length rows) n (Ok x) (Err f) reads reads')
takes_only rows notes a b (refused {note = n} {f = f} reads) (row x reads' more) = absurd (row_once (length rows) n (Err f) (Ok x) reads reads')
takes_only rows notes a b (refused {note = n} {f = f} reads) (refused {f = g} reads') = row_once (length rows) n (Err f) (Err g) reads reads'

-- a feed has one opening: its building by its numbers, its notes, and the bytes that are left
opens_with_only : {feed : List ℕ} {b c : Building} {notes notes' : List (List ℕ)} {left left' : List ℕ} → OpensWith feed b notes left → OpensWith feed c notes' left' → (numbers_of b ≡ numbers_of c) × (notes ≡ notes') × (left ≡ left')
opens_with_only {feed} {b} {c} {notes} {notes'} {left} {left'} p q =
    let same = rows_only (rest_after_first feed) notes notes' left left' p.rows q.rows in
    (building_once feed (Ok b) (Ok c) p.building q.building, same.0, same.1)

pub opens_only : (feed : List ℕ) (a b : Result ProjectParts Refusal) → GivesProject feed a → GivesProject feed b → SameAnswer ◌≡◌ a b
opens_only feed a b (too_long {f = f} long) (too_long {f = g} long') = least_only (length_conditions feed) (refusal_number f) (refusal_number g) long long'
opens_only feed a b (too_long {f = f} long) (no_building short reads) = absurd (none_fails (length_conditions feed) short (refusal_number f) long.0)
opens_only feed a b (too_long {f = f} long) (row_refused short opens takes) = absurd (none_fails (length_conditions feed) short (refusal_number f) long.0)
opens_only feed a b (too_long {f = f} long) (project short opens takes) = absurd (none_fails (length_conditions feed) short (refusal_number f) long.0)
opens_only feed a b (no_building short reads) (too_long {f = f} long) = absurd (none_fails (length_conditions feed) short (refusal_number f) long.0)
opens_only feed a b (no_building {f = f} short reads) (no_building {f = g} short' reads') = building_once feed (Err f) (Err g) reads reads'
opens_only feed a b (no_building {f = f} short reads) (row_refused {b = x} short' opens takes) = absurd (building_once feed (Err f) (Ok x) reads opens.building)
opens_only feed a b (no_building {f = f} short reads) (project {b = x} short' opens takes) = absurd (building_once feed (Err f) (Ok x) reads opens.building)
opens_only feed a b (row_refused short opens takes) (too_long {f = f} long) = absurd (none_fails (length_conditions feed) short (refusal_number f) long.0)
opens_only feed a b (row_refused {b = x} short opens takes) (no_building {f = f} short' reads) = absurd (building_once feed (Ok x) (Err f) opens.building reads)
opens_only feed a b (row_refused {notes = ns} {f = f} short opens takes) (row_refused {f = g} short' opens' takes') =
    let same = opens_with_only opens opens' in
    takes_only [] ns (Err f) (Err g) takes (subst (λ n. TakesFactorRows [] n (Err g)) (sym same.1) takes')
opens_only feed a b (row_refused {notes = ns} {f = f} short opens takes) (project {rows = rs} short' opens' takes') =
    let same = opens_with_only opens opens' in
    absurd (takes_only [] ns (Err f) (Ok rs) takes (subst (λ n. TakesFactorRows [] n (Ok rs)) (sym same.1) takes'))
opens_only feed a b (project short opens takes) (too_long {f = f} long) = absurd (none_fails (length_conditions feed) short (refusal_number f) long.0)
opens_only feed a b (project {b = x} short opens takes) (no_building {f = f} short' reads) = absurd (building_once feed (Ok x) (Err f) opens.building reads)
opens_only feed a b (project {notes = ns} {rows = rs} short opens takes) (row_refused {f = f} short' opens' takes') =
    let same = opens_with_only opens opens' in
    absurd (takes_only [] ns (Ok rs) (Err f) takes (subst (λ n. TakesFactorRows [] n (Err f)) (sym same.1) takes'))
opens_only feed a b (project {notes = ns} {rows = rs} short opens takes) (project {rows = rs'} short' opens' takes') =
    let same = opens_with_only opens opens' in
    let rows = takes_only [] ns (Ok rs) (Ok rs') takes (subst (λ n. TakesFactorRows [] n (Ok rs')) (sym same.1) takes') in
    (λ i. project_parts (same.0 i) (rows i) (same.2 i))

-- the line for a refusal depends on its number alone
denied_same : (k : ℕ) (f g : Refusal) → refusal_number f ≡ refusal_number g → denied_line k f ≡ denied_line k g
denied_same k f g number i = codes "denied " ++ (decimal k ++ (codes " " ++ (decimal (number i) ++ codes "\n")))

-- a send has one outcome and one line
same_sends : {s t t' : State} {bs : List ℕ} (r r' : Result (Unit {0}) Refusal) (k : ℕ) → Sends s bs r t → Sends s bs r' t' → (t ≡ t') × (send_text k r ≡ send_text k r')
same_sends (Ok u) (Ok v) k a b = (a.accepted ∙ sym b.accepted, refl)
same_sends {s} {bs = bs} (Ok u) (Err g) k a b = let e = number_unique (send_conditions s bs) a.number b.number in absurd (omega (arith, above_zero g))
same_sends {s} {bs = bs} (Err f) (Ok v) k a b = let e = number_unique (send_conditions s bs) a.number b.number in absurd (omega (arith, above_zero f))
same_sends {s} {bs = bs} (Err f) (Err g) k a b = (a.refused ∙ sym b.refused, denied_same k f g (number_unique (send_conditions s bs) a.number b.number))

module _ (b : BuildingNumbers) (factor_map : FactorMap) where
  -- the same bytes, sent in the same order, give the same state and the same lines
  sent_once : (a a' : List (List ℕ × Result (Unit {0}) Refusal)) (s s' : State) → map (λ x. x.0) a ≡ map (λ x. x.0) a' → History b factor_map (send_events a) s → History b factor_map (send_events a') s' → (s ≡ s') × (history_text (send_events a) ≡ history_text (send_events a'))
  sent_once [] [] s s' same new new = (refl, refl)
  sent_once [] (y ∷ a') s s' same history run' = let e = ap length same in absurd (omega (arith, e))
  sent_once (x ∷ a) [] s s' same history run' = let e = ap length same in absurd (omega (arith, e))
  sent_once (x ∷ a) (y ∷ a') s s' same (send {s = t} history step) (send {s = t'} run' step') =
      let bytes : x.0 ≡ y.0 = ap (λ l. get_or l 0 []) same in
      let tail : map (λ z. z.0) a ≡ map (λ z. z.0) a' = ap (drop 1) same in
      let before = sent_once a a' t t' tail history run' in
      let step'' : Sends t x.0 y.1 s' = subst (λ q. Sends q x.0 y.1 s') (sym before.0) (subst (λ bs. Sends t' bs y.1 s') (sym bytes) step') in
      let once = same_sends x.1 y.1 (length (sent_bytes (send_events a)) + 1) step step'' in
      let place : length (sent_bytes (send_events a)) + 1 ≡ length (sent_bytes (send_events a')) + 1 = ap (λ l. length l + 1) (bytes_are a (map (λ z. z.0) a') tail ∙ sym (bytes_are a' (map (λ z. z.0) a') refl)) in
      (once.0, λ i. before.1 i ++ (once.1 ∙ ap (λ k. send_text k y.1) place) i)

  -- they then give the same page by stage and the same grade
  ends_once : (a a' : List (List ℕ × Result (Unit {0}) Refusal)) (s s' : State) (places places' after after' : List Figure) (total total' : Figure) (n n' : ℕ) → map (λ x. x.0) a ≡ map (λ x. x.0) a' → History b factor_map (grade_event n ∷ (page_event by_stage places (Ok total) after ∷ send_events a)) s → History b factor_map (grade_event n' ∷ (page_event by_stage places' (Ok total') after' ∷ send_events a')) s' → history_text (grade_event n ∷ (page_event by_stage places (Ok total) after ∷ send_events a)) ≡ history_text (grade_event n' ∷ (page_event by_stage places' (Ok total') after' ∷ send_events a'))
  ends_once a a' s s' places places' after after' total total' n n' same (grade (page history pages) grades) (grade (page run' pages') grades') =
      let sent = sent_once a a' s s' same history run' in
      let pages'' : DrawsPage s by_stage places' (Ok total') after' = subst (λ q. DrawsPage q by_stage places' (Ok total') after') (sym sent.0) pages' in
      let grades'' : GivesGrade s n' = subst (λ q. GivesGrade q n') (sym sent.0) grades' in
      let figures : take by_stage.size after ≡ take by_stage.size after' = shown pages.writes ∙ sym (shown pages''.writes) in
      let totals : total ≡ total' = pages.writes.answer.1 ∙ sym pages''.writes.answer.1 in
      let grade_is : n ≡ n' = one_grade grades grades'' in
      (λ i. (sent.1 i ++ page_lines (figures i) (totals i)) ++ grade_line (grade_is i))

project_report_only : (c : ProjectParts) (text other : List ℕ) → IsProjectReport c text → IsProjectReport c other → text ≡ other
project_report_only c text other a a' =
    let sent_bytes = sends_of_only c.notes a.sends a'.sends a.sent a'.sent in
    let bytes : map (λ x. x.0) a.calls.answered ≡ map (λ x. x.0) a'.calls.answered = a.calls.sent ∙ ap reverse sent_bytes ∙ sym a'.calls.sent in
    a.written ∙ ends_once c.building (project_map c.rows) a.calls.answered a'.calls.answered a.calls.last a'.calls.last a.places a'.places a.after a'.after a.total a'.total a.grade a'.grade bytes a.calls.history a'.calls.history ∙ sym a'.written

pub report_only : {feed text other : List ℕ} → IsReportText feed text → IsReportText feed other → text ≡ other
report_only {feed} (denied {f = f} opens is) (denied {f = g} opens' is') =
    is ∙ denied_same 0 f g (opens_only feed (Err f) (Err g) opens opens') ∙ sym is'
report_only {feed} (denied {f = f} opens is) (of_project {c = c} opens' a) = absurd (opens_only feed (Err f) (Ok c) opens opens')
report_only {feed} (of_project {c = c} opens a) (denied {f = f} opens' is) = absurd (opens_only feed (Ok c) (Err f) opens opens')
report_only {feed} {text} {other} (of_project {c = c} opens a) (of_project {c = d} opens' a') =
    project_report_only c text other a (subst (λ x. IsProjectReport x other) (sym (opens_only feed (Ok c) (Ok d) opens opens')) a')

-- a report is lawful
pub report_lawful : {feed text : List ℕ} → IsReportText feed text → IsLawfulReport feed text
report_lawful {feed} (denied {f = f} opens is) c opens' = absurd (opens_only feed (Err f) (Ok c) opens opens')
report_lawful {feed} {text} (of_project {c = d} opens a) c opens' =
    subst (λ x. EndsLawfully x text) (opens_only feed (Ok d) (Ok c) opens opens') (concludes d text a)

pub is_report : {feed text : List ℕ} → IsReportText feed text → IsReport feed text
is_report reports = record { reports = reports; only = λ other more. report_only more reports; law = report_lawful reports }

-- what a call promises of the report that it returns
module _ (feed : List ℕ) (r : Result (String Global) AllocError) (value : IfOk r (λ s. IsReportText feed (string_bytes s))) where
  pub only_report : IfOk r (λ s. (other : List ℕ) → IsReportText feed other → other ≡ string_bytes s)
  only_report = IfOk-weaker r (λ s. IsReportText feed (string_bytes s)) (λ s. (other : List ℕ) → IsReportText feed other → other ≡ string_bytes s) (λ s reports other more. report_only more reports) value

  pub lawful_report : IfOk r (λ s. IsLawfulReport feed (string_bytes s))
  lawful_report = IfOk-weaker r (λ s. IsReportText feed (string_bytes s)) (λ s. IsLawfulReport feed (string_bytes s)) (λ s reports. report_lawful reports) value
