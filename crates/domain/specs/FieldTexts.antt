-- The text of named fields, and of a building and a factor row.
use Rattle.std.specs.Prelude.{ℕ, List, [], ◌∷◌, ◌++◌, codes, decimal}
use Rattle.domain.specs.declared.building.BuildingNumbers.{BuildingNumbers}
use Rattle.domain.specs.declared.entry.EntryHead.{EntryHead}
use Rattle.domain.specs.declared.factor.FactorRow.{FactorRow}

-- the name and the value of a field
abbrev pub NamedField : Type 0
NamedField = List ℕ × ℕ

-- a field as `name=value`
abbrev pub field_text : NamedField → List ℕ
field_text f = f.0 ++ (codes "=" ++ decimal f.1)

-- a space, and then a field
abbrev pub spaced_field : NamedField → List ℕ
spaced_field f = codes " " ++ field_text f

-- fields with a space between each two
abbrev pub fields_text : List NamedField → List ℕ
fields_text [] = []
fields_text (f ∷ []) = field_text f
fields_text (f ∷ g ∷ more) = field_text f ++ (codes " " ++ fields_text (g ∷ more))

-- the fields of a building by name, in the order in which they are listed
abbrev pub building_fields : BuildingNumbers → List NamedField
building_fields b =
    (codes "area", b.area) ∷ (codes "life", b.life) ∷ (codes "region", b.region) ∷ (codes "sun", b.sun)
    ∷ (codes "type", b.building_type) ∷ (codes "reference", b.reference) ∷ []

-- and of a factor row
abbrev pub factor_row_fields : FactorRow → List NamedField
factor_row_fields row =
    (codes "code", row.code) ∷ (codes "amount", row.factor.amount) ∷ (codes "unit", row.factor.unit) ∷ []

-- and of an entry, before its quantity
abbrev pub head_fields : EntryHead → List NamedField
head_fields e = (codes "row", e.row) ∷ (codes "span", e.span) ∷ (codes "code", e.code) ∷ []

-- the kind and the fields of a building, and of a factor row
abbrev pub building_text : BuildingNumbers → List ℕ
building_text b = codes "building " ++ fields_text (building_fields b)

abbrev pub factor_row_text : FactorRow → List ℕ
factor_row_text row = codes "factor " ++ fields_text (factor_row_fields row)
