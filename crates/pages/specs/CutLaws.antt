-- The three cuts are cuts. These laws stand in the specs because each cut names its law, and cuts see no proofs.
use Rattle.std.specs.Prelude.{ℕ}
use Rattle.std.proofs.Common.{arith}
use Rattle.domain.specs.Ranges.{IsBetween}
use Rattle.booking.specs.Rows.{stage}
use Rattle.pages.specs.Cuts.{IsCut, by_row, by_stage, by_type}
use Rattle.pages.specs.Types.{emission_type}

pub by_row_lawful : IsCut by_row
by_row_lawful = record { few = (omega arith, omega arith); every = λ row h. h }

a_stage : (row : ℕ) → IsBetween 1 (stage row) 4
a_stage row = grind arith

pub by_stage_lawful : IsCut by_stage
by_stage_lawful = record { few = (omega arith, omega arith); every = λ row h. a_stage row }

a_type : (row : ℕ) → IsBetween 1 (emission_type row) 4
a_type row = grind arith

pub by_type_lawful : IsCut by_type
by_type_lawful = record { few = (omega arith, omega arith); every = λ row h. a_type row }
