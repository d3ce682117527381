-- The first places of a page that was written.
use Rattle.std.proofs.Common.{◌≡◌, List, ◌++◌, length, take, drop, Ok, ap, ◌∙◌, subst}
use Rattle.std.proofs.Math.Seq.{take-append_seam}
use Rattle.std.proofs.lemmas.List.FromFn.{length-map-range_with_len}
use Rattle.totals.specs.Sums.{Sums}
use Rattle.pages.specs.declared.figure.Figure.{Figure}
use Rattle.pages.specs.Cuts.{Assignment}
use Rattle.pages.specs.Pages.{heading_figure, page_figures, Writes}

-- a page has a figure for each heading
figures_each : (cut : Assignment) (sums : Sums) → length (page_figures cut sums) ≡ cut.size
unfolding page_figures
figures_each cut sums = length-map-range_with_len (heading_figure cut sums) 1 cut.size

-- the first places, one for each heading, hold the figures of the page
pub shown : {cut : Assignment} {sums : Sums} {before after : List Figure} {total : Figure} → Writes cut sums before (Ok total) after → take cut.size after ≡ page_figures cut sums
shown {cut} {sums} {before} w =
    ap (take cut.size) w.places ∙ subst (λ n. take n (page_figures cut sums ++ drop cut.size before) ≡ page_figures cut sums) (figures_each cut sums) (take-append_seam (page_figures cut sums) (drop cut.size before))
