use Rattle.std.proofs.Common.{rules}
use Rattle.grades.proofs.Energy.{one_row}
use Rattle.grades.proofs.energy_emissions.grams.Goals as goal

pub returns : goal.returns
returns c =
    let row = one_row c.args.totals c.args.row (search rules) c.index.ensures in
    record { value = row.0; within = row.1 }
