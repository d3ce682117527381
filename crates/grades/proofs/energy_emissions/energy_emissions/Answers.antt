use Rattle.std.proofs.Common.{arith}
use Rattle.std.proofs.lemmas.Int.{ints}
use Rattle.grades.proofs.Energy.{energy_rows}
use Rattle.grades.proofs.energy_emissions.energy_emissions.Goals as goal

pub returns : goal.returns
returns c =
    let rows = energy_rows c.args.totals in
    record { value = omega (arith, ints); within = omega (arith, ints) }
