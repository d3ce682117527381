use Rattle.std.proofs.Common.{refl}
use Rattle.figures.proofs.WorkedFigures.{figures_hold}
use Rattle.figures.proofs.worked.worked_figures.Goals as goal

pub returns : goal.returns
returns c = record { held = figures_hold; count = refl }
