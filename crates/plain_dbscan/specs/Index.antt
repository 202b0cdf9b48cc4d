-- What an index holds.
use Rattle.std.specs.Prelude.{ℕ, List}
use Rattle.std.specs.FinMap as finite
use Rattle.vec_record.specs.Held.{Rows}
use Rattle.plain_dbscan.specs.Marks.{density, near_vector}

-- The numbers of the vectors that are at most eps from a vector, rising.
abbrev pub near : (List ℕ → List ℕ → ℕ) → Rows → List ℕ → ℕ → List ℕ
near dist rows centre eps = near_vector (density dist eps 1) (finite.entries rows) centre
