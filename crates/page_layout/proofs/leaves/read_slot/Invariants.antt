use Rattle.std.proofs.Common.{◌≡◌, map}
use Rattle.std.specs.List.{range_with_len}
use Rattle.page_layout.specs.Leaves.{leaf_row_at, leaf_row_in}
use Rattle.page_layout.proofs.leaves.read_slot.Given as goal

abbrev pub invariant-loop-k : goal.invariant-loop-k
invariant-loop-k l = l.rows ≡ map (λ k. leaf_row_in l.page (leaf_row_at l.at k)) (range_with_len 0 l.k)
