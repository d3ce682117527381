-- Gathering the factor rows of a project.
use Rattle.std.proofs.Common.{◌≡◌, ℕ, List, [], ◌∷◌, ◌++◌, length, Ok, Err, Result, sym, refl, subst}
use Rattle.refusals.specs.declared.refusal.Refusal.{Refusal}
use Rattle.domain.specs.declared.factor.FactorRow.{FactorRow}
use Rattle.feed.specs.Readings.{ReadsFactorRow}
use Rattle.feed.specs.FactorRows.{ReadsEachRow, none, one}
use Rattle.report.specs.Projects.{ReadsFactorRowAfter, TakesFactorRows, all, row, refused}

-- the rows that are gathered so far, and the answers that are still to come
pub record Gathered (notes : List (List ℕ)) (rest : List (Result FactorRow Refusal)) (rows : List FactorRow) : Type 0 where
  pub more : List (List ℕ)
  pub read : ReadsEachRow more rest
  pub before : (end : Result (List FactorRow) Refusal) → TakesFactorRows rows more end → TakesFactorRows [] notes end

pub none_gathered : {notes : List (List ℕ)} {rest : List (Result FactorRow Refusal)} {rows : List FactorRow} → ReadsEachRow notes rest → rows ≡ [] → Gathered notes rest rows
none_gathered {notes} read empty = record { more = notes; read = read; before = λ end takes. subst (λ rows. TakesFactorRows rows notes end) empty takes }

-- the first of the notes that are still to come
first_of : {a : Result FactorRow Refusal} {rest : List (Result FactorRow Refusal)} {notes : List (List ℕ)} → ReadsEachRow notes (a ∷ rest) → (note : List ℕ) × (more : List (List ℕ)) × (notes ≡ note ∷ more) × ReadsFactorRow note a × ReadsEachRow more rest
first_of (one {note = note} {notes = more} reads read) = (note, more, refl, reads, read)

module _ {notes : List (List ℕ)} {a : Result FactorRow Refusal} {rest : List (Result FactorRow Refusal)} {rows : List FactorRow} (old : Gathered notes (a ∷ rest) rows) where
  -- its row is taken
  pub one_gathered : (r : FactorRow) {longer : List FactorRow} → ((note : List ℕ) → ReadsFactorRow note a → ReadsFactorRowAfter (length rows) note (Ok r)) → longer ≡ rows ++ (r ∷ []) → Gathered notes rest longer
  one_gathered r own is =
      let first = first_of old.read in
      let reads = own first.0 first.3 in
      record {
        more = first.1;
        read = first.4;
        before = λ end takes. old.before end (subst (λ ns. TakesFactorRows rows ns end) (sym first.2) (row r reads (subst (λ rs. TakesFactorRows rs first.1 end) is takes)));
      }

  -- its row is refused
  pub one_refused : (f : Refusal) → ((note : List ℕ) → ReadsFactorRow note a → ReadsFactorRowAfter (length rows) note (Err f)) → TakesFactorRows [] notes (Err f)
  one_refused f own =
      let first = first_of old.read in
      let reads = own first.0 first.3 in
      old.before (Err f) (subst (λ ns. TakesFactorRows rows ns (Err f)) (sym first.2) (refused reads))

none_left : {notes : List (List ℕ)} → ReadsEachRow notes [] → notes ≡ []
none_left none = refl

pub all_gathered : {notes : List (List ℕ)} {rows : List FactorRow} → Gathered notes [] rows → TakesFactorRows [] notes (Ok rows)
all_gathered {rows = rows} old = old.before (Ok rows) (subst (λ ns. TakesFactorRows rows ns (Ok rows)) (sym (none_left old.read)) all)
