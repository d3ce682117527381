-- A building is given one grade and no other.
use Rattle.std.proofs.Common.{◌≡◌, ℕ, ℤ, arith}
use Rattle.domain.specs.declared.building.BuildingNumbers.{BuildingNumbers}
use Rattle.grades.specs.Grades.{IsAwarded}

-- of two grades, the lower one is not the highest that is met
pub one_grade : {b : BuildingNumbers} {w : ℤ} {n m : ℕ} → IsAwarded b w n → IsAwarded b w m → n ≡ m
one_grade {n} {m} other given = grind (arith, other.highest m, given.highest n)
