-- The worked figures hold; most of them are what the definitions compute to.
use Rattle.std.proofs.Common.{rules}
use lib.Ieee.{round}
use Rattle.exact.specs.Rounding.{nearest_whole}
use Rattle.booking.specs.Booking.{booking_conditions}
use Rattle.totals.specs.Sums.{sum_in, numbered_rows}
use Rattle.pages.specs.Pages.{page_figures}
use Rattle.figures.specs.Figures.{figures, AllTrue}
use Rattle.figures.proofs.WithdrawnFigures.{refused, none_counts, counts}

pub figures_hold : AllTrue figures
unfolding nearest_whole booking_conditions round sum_in numbered_rows page_figures
figures_hold = search (rules, refused, none_counts, counts)
