use Rattle.std.proofs.Common.{refl, rules, arith}
use Rattle.sheet.proofs.Places.{puts_none, puts_next}
use Rattle.sheet.proofs.book.Book.add.Goals as goal

pub returns-then-is_full : goal.returns-then-is_full
returns-then-is_full c = puts_none c.args.new c.args.self.now (search rules) c.requires (c.if-is_full.ensures.0 refl)

pub returns : goal.returns
returns c = puts_next c.args.new c.args.self.now (search rules) c.requires (grind (arith, c.if-is_full.ensures))
