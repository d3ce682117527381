use Rattle.std.proofs.Common.{arith}
use Rattle.std.proofs.lemmas.Int.{ints}
use Rattle.grades.proofs.Energy.{two_rows}
use Rattle.grades.proofs.energy_emissions.both.Goals as goal

pub returns : goal.returns
returns c =
    let rows = two_rows c.args.totals c.requires in
    record { value = omega (arith, ints); within = omega (arith, ints) }
