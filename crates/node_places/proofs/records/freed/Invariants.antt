use Rattle.std.proofs.Common.{◌≡◌, ◌<◌, ℕ, false, cond, length, map, take, get_or}
use Rattle.node_places.specs.Slots.{has}
use Rattle.node_places.proofs.records.freed.Given as goal

abbrev pub invariant-loop-number : goal.invariant-loop-number
invariant-loop-number l = record {
  slots : l.freed.items ≡ map (λ n. cond (has l.numbers n) n 0) (take l.number-index l.slots);
  marks : (k : ℕ) → k < length l.numbers
      → get_or l.marks k false ≡ has (take l.number-index l.slots) (get_or l.numbers k 0);
}
