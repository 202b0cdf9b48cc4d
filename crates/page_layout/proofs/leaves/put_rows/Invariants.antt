use Rattle.std.proofs.Common.{◌≡◌, ◌+◌, ◌*◌, ◌++◌, take, drop}
use Rattle.std.specs.List.{flat_map}
use Rattle.page_layout.specs.Leaves.{leaf_row_bytes}
use Rattle.page_layout.proofs.leaves.put_rows.Given as goal

abbrev pub invariant-loop-k : goal.invariant-loop-k
invariant-loop-k l = l.out ≡ take l.at l.fn.out ++ flat_map leaf_row_bytes (take l.k l.rows) ++ drop (l.at + 8 * l.k) l.fn.out
