-- What a source in memory is seen as.
use Rattle.std.specs.Prelude.{ℕ, List}

-- the bytes that are left, the size of a piece, the calls that are to fail, and the numbers of calls and of faults
pub record Input : Type 0 where
  pub left : List ℕ
  pub piece : ℕ
  pub fail : List ℕ
  pub made : ℕ
  pub faults : ℕ
