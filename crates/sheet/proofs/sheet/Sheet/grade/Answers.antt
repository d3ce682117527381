use Rattle.std.proofs.Common.{subst}
use Rattle.domain.specs.Buildings.{numbers_of}
use Rattle.grades.specs.Grades.{grade_number, energy_emissions, IsAwarded}
use Rattle.sheet.specs.Histories.{GivesGrade, grade}
use Rattle.sheet.specs.States.{state_of}
use Rattle.sheet.proofs.Lawful.{lawful}
use Rattle.sheet.proofs.sheet.Sheet.grade.Goals as goal

pub returns : goal.returns
returns g c =
    let given : GivesGrade (state_of g.S.FactorSource.factor_map c.args.self.now) (grade_number c.grade.result) =
    subst (λ sums. IsAwarded (numbers_of c.args.self.now.building) (energy_emissions sums) (grade_number c.grade.result)) c.totals.ensures c.grade.ensures.awarded in
    record { value = given; law = λ b factor_map before history. lawful b factor_map (grade history given) }
