use Rattle.std.proofs.Common.{◌≡◌, ◌≤◌, ◌++◌, length, take, drop}
use Rattle.node_places.specs.Slots.{filled}
use Rattle.node_places.proofs.filling.fill.Given as goal

abbrev pub invariant-loop-slot : goal.invariant-loop-slot
invariant-loop-slot l = record {
  within : l.next ≤ length l.new;
  rest : take l.slot-index l.slots ++ filled (drop l.slot-index l.slots) (drop l.next l.new) ≡ filled l.initial.slots l.new;
}
