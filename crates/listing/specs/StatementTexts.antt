-- The texts of statements, and of the lines that have them.
use Rattle.std.specs.Prelude.{ℕ, List, ◌++◌}
use Rattle.feed.specs.NoteTexts.{note_text}
use Rattle.listing.specs.declared.statement.Statement.{Statement}
use Rattle.listing.specs.declared.statement.Statement.TheVariants.{Note, Refused, Unframed}
use Rattle.listing.specs.declared.part_line.PartLine.{PartLine}
use Rattle.listing.specs.ListingLines.{refused_note_text, unframed_text, outcome_suffix, placed_line}

abbrev pub statement_text : Statement → List ℕ
statement_text (Note note outcome) = note_text note ++ outcome_suffix outcome
statement_text (Refused head f) = refused_note_text head.kind head.length f
statement_text (Unframed left f) = unframed_text left f

-- the text of the line of a part of a feed
abbrev pub part_line_text : PartLine → List ℕ
part_line_text line = placed_line line.place line.start (statement_text line.statement)
