use Rattle.std.proofs.Common.{◌≡◌, ◌<◌, ℕ, false, length, take, get_or}
use Rattle.node_places.specs.Slots.{has}
use Rattle.node_places.proofs.nodes.standing.Given as goal

abbrev pub invariant-loop-number : goal.invariant-loop-number
invariant-loop-number l = record {
  long : length l.marks.items ≡ l.count;
  standing : (n : ℕ) → n < l.count
      → get_or l.marks.items n false ≡ has (take l.number-index l.slots) n;
}
