use Rattle.std.proofs.Common.{arith, ◌∙◌, sym}
use Rattle.sheet.specs.Places.{used_places}
use Rattle.sheet.proofs.FirstPlaces.{found_later, missed_beyond}
use Rattle.sheet.proofs.book.Book.find.Goals as goal

pub returns-in_err-later : goal.returns-in_err-later
returns-in_err-later c = c.from_residual.ensures ∙ missed_beyond c.args.number (used_places c.args.self.now) c.used_places.ensures.value c.requires (let past = c.in_err-later.ensures.lookup.0 in omega (arith, past))

pub returns-in_err-at : goal.returns-in_err-at
returns-in_err-at c =
    let later = c.in_ok-later.ensures.lookup.0 in
    c.from_residual-in_err-at.ensures ∙ found_later c.args.number (used_places c.args.self.now) c.used_places.ensures.value c.requires later.2 later.0 (sym c.first_with.ensures ∙ c.in_err-at.was)

pub returns : goal.returns
returns c =
    let later = c.in_ok-later.ensures.lookup.0 in
    found_later c.args.number (used_places c.args.self.now) c.used_places.ensures.value c.requires later.2 later.0 (sym c.first_with.ensures ∙ c.in_ok-at.was)
