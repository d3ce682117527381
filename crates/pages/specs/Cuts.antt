-- Cuts: how many headings there are, and which of them each row has.
use Rattle.std.specs.Prelude.{ℕ}
use Rattle.domain.specs.Ranges.{IsBetween}
use Rattle.booking.specs.Rows.{IsRowNumber, stage}
use Rattle.pages.specs.Types.{emission_type}

-- the number of headings, and the heading of each row, counted from 1
pub record Assignment : Type 0 where
  pub size : ℕ
  pub heading : ℕ → ℕ

-- a cut has 1 to 22 headings, and gives every row one of them
pub record IsCut (a : Assignment) : Type 0 where
  pub few : IsBetween 1 a.size 22
  pub every : (row : ℕ) → IsRowNumber row → IsBetween 1 (a.heading row) a.size

-- each row has a heading of its own
abbrev pub by_row : Assignment
by_row = record { size = 22; heading = λ row. row }

-- the stages A to D
abbrev pub by_stage : Assignment
by_stage = record { size = 4; heading = stage }

-- direct, indirect, embodied and the sink
abbrev pub by_type : Assignment
by_type = record { size = 4; heading = emission_type }
