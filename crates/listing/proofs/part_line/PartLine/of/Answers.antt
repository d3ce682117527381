use Rattle.std.proofs.Common.{refl}
use Rattle.listing.specs.ListingLines.{IsPartLine}
use Rattle.listing.specs.Bases.{basis_of}
use Rattle.listing.proofs.OneListing.{line_only}
use Rattle.listing.proofs.part_line.PartLine.of.Goals as goal

pub returns : goal.returns
returns c =
    let line : IsPartLine (basis_of c.args.basis.now) c.args.part.now _ = record { statement = _; tells = c.of.ensures; text = refl } in
    record { value = line; only = λ other more. line_only more line }
