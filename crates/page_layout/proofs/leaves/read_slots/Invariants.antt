use Rattle.std.proofs.Common.{◌≡◌}
use Rattle.page_layout.proofs.LeafLaws.{rows_from}
use Rattle.page_layout.proofs.leaves.read_slots.Given as goal

abbrev pub invariant-loop-i : goal.invariant-loop-i
invariant-loop-i l = l.slots ≡ rows_from l.page l.i
