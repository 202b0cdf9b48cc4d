use Rattle.std.proofs.Common.{◌≡◌, ◌+◌, ◌<◌, ◌≤◌, ℕ, length, drop, get_or}
use Rattle.node_places.specs.Nodes.{holder}
use Rattle.node_places.proofs.nodes.holders.Given as goal

abbrev pub invariant-nodes : goal.invariant-nodes
invariant-nodes l = record {
  long : length l.table.items ≡ l.limit;
  within : l.left ≤ length l.nodes;
  holders : (tag : ℕ) → tag < l.limit
      → get_or l.table.items tag 0 ≡ holder (l.left + 1) l.leaf (drop l.left l.nodes) tag;
}

abbrev pub decreases-nodes : goal.decreases-nodes
decreases-nodes l = l.left
