use Rattle.std.proofs.Common.{◌≡◌, take}
use Rattle.node_refs.proofs.pages.leaf_copy.Given as goal

abbrev pub invariant-loop-row : goal.invariant-loop-row
invariant-loop-row l = l.copy ≡ take l.row-index l.rows
