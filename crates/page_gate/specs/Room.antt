-- What the pages of a file are seen as.
use Rattle.std.specs.Prelude.{ℕ, List}

-- the pages from page 1 on, and for how many more there is room
pub record Room : Type 0 where
  pub list : List (List ℕ)
  pub spare : ℕ
