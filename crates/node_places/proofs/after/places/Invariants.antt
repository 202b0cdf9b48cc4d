use Rattle.std.proofs.Common.{◌≡◌, ◌<◌, ◌≤◌, ℕ, length, drop, get_or}
use Rattle.node_places.specs.Nodes.{ref_of}
use Rattle.node_places.proofs.after.places.Given as goal

abbrev pub invariant-slots : goal.invariant-slots
invariant-slots l = record {
  long : length l.table.items ≡ l.count;
  slots : l.left ≤ length l.slots;
  refs : l.left ≤ length l.refs;
  places : (n : ℕ) → n < l.count
      → get_or l.table.items n 0 ≡ ref_of (drop l.left l.slots) (drop l.left l.refs) n;
}

abbrev pub decreases-slots : goal.decreases-slots
decreases-slots l = l.left
