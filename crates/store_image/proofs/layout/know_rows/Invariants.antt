use Rattle.std.proofs.Common.{ℕ, ◌<◌, get_or}
use Rattle.std.specs.FinMap as maps
use Rattle.store_image.specs.inside.Saves.{IsSmallRow}
use Rattle.store_image.proofs.layout.know_rows.Given as goal

abbrev pub invariant-loop-k : goal.invariant-loop-k
invariant-loop-k l = (j : ℕ) → j < l.k → IsSmallRow (maps.get l.counts.rows (get_or l.numbers j 0))
