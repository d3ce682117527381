-- Searches for the largest number below an end.
use Rattle.std.specs.Prelude.{ℕ, ◌<◌, ◌≤◌, Option, Some, None}

-- `most` is the largest number below the end of which P holds
pub record IsLargest (P : ℕ → Type 0) (end most : ℕ) : Type 0 where
  pub tried : most < end
  pub holds : P most
  pub no_larger : (n : ℕ) → n < end → P n → n ≤ most

-- the largest number below the end of which P holds, or none where it holds of none
unfoldable pub FindsLargest : (ℕ → Type 0) → ℕ → Option ℕ → Type 0
FindsLargest P end None = (n : ℕ) → n < end → P n → ⊥
FindsLargest P end (Some most) = IsLargest P end most
