-- A feed begins with one opening.
use Rattle.std.proofs.Common.{◌≡◌, ℕ, List, ◌∷◌, Ok, Err, Option, sym, refl, ap, subst}
use Rattle.domain.specs.declared.building.Building.{Building}
use Rattle.domain.specs.declared.factor.FactorRow.{FactorRow}
use Rattle.feed.specs.Frames.{rest_after_first}
use Rattle.feed.proofs.FirstNote.{building_once, row_once}
use Rattle.feed.proofs.FactorRows.{rows_only}
use Rattle.factors.specs.Layers.{project_map}
use Rattle.listing.specs.Bases.{KeepsFitFactorRows, none, row, passed, HasBasis, building, no_building, by, basis_with}

fit_only : (notes : List (List ℕ)) (a b : List FactorRow) → KeepsFitFactorRows notes a → KeepsFitFactorRows notes b → a ≡ b
fit_only notes a b none none = refl
fit_only notes a b (row {note = n} {notes = ns} {r = x} {rows = xs} reads more) (row {r = y} {rows = ys} reads' more') =
    let same = row_once n (Ok x) (Ok y) reads reads' in
    (λ i. same i ∷ fit_only ns xs ys more more' i)
fit_only notes a b (row {note = n} {r = x} reads more) (passed f reads' more') = absurd (row_once n (Ok x) (Err f) reads reads')
fit_only notes a b (passed {note = n} f reads more) (row {r = y} reads' more') = absurd (row_once n (Err f) (Ok y) reads reads')
fit_only notes a b (passed {notes = ns} f reads more) (passed f' reads' more') = fit_only ns a b more more'

-- the basis of a feed is unique
pub basis_only : (feed : List ℕ) (a b : Option Building) (rows rows' : List FactorRow) → HasBasis feed a rows → HasBasis feed b rows' → basis_with a rows ≡ basis_with b rows'
basis_only feed a b rows rows' (building {notes = ns} {left = l} x opens fit) (building {notes = ns'} {left = l'} y opens' fit') =
    let life : x.life ≡ y.life = ap (λ n. n.life) (building_once feed (Ok x) (Ok y) opens.building opens'.building) in
    let same = rows_only (rest_after_first feed) ns ns' l l' opens.rows opens'.rows in
    let list = fit_only ns rows rows' fit (subst (λ n. KeepsFitFactorRows n rows') (sym same.0) fit') in
    (λ i. by (life i) (project_map (list i)))
basis_only feed a b rows rows' (building x opens fit) (no_building other) = absurd (other x opens.building)
basis_only feed a b rows rows' (no_building other) (building x opens fit) = absurd (other x opens.building)
basis_only feed a b rows rows' (no_building other) (no_building other') = refl
