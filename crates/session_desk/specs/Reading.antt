-- How far a source was read.
use Rattle.std.specs.Prelude.{◌≡◌, ℕ, ◌≤◌, List, ◌++◌, length}

-- at most so many bytes were taken from the front
pub record IsTaken (most : ℕ) (old new : List ℕ) : Type 0 where
  pub bytes : List ℕ
  pub front : old ≡ bytes ++ new
  pub few : length bytes ≤ most
