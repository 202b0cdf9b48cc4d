use Rattle.std.proofs.Common.{◌≡◌}
use Rattle.node_refs.specs.Pages.{slot_refs}
use Rattle.node_refs.proofs.Used.{slots_from}
use Rattle.node_refs.proofs.faults.first_slot.Given as goal

abbrev pub invariant-loop-slot : goal.invariant-loop-slot
invariant-loop-slot l = slots_from l.first l.slots l.slot ≡ slot_refs l.first l.slots
