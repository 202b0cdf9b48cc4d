use Rattle.std.proofs.Common.{◌≡◌, ◌++◌}
use Rattle.node_refs.specs.Pages.{slot_refs}
use Rattle.node_refs.proofs.Used.{slots_from}
use Rattle.node_refs.proofs.pages.push_slots.Given as goal

abbrev pub invariant-loop-slot : goal.invariant-loop-slot
invariant-loop-slot l = l.refs ++ slots_from l.first l.slots l.slot ≡ l.fn.refs ++ slot_refs l.first l.slots
