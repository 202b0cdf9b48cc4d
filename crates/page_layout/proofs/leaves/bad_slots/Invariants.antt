use Rattle.std.proofs.Common.{◌≡◌, None}
use Rattle.page_layout.specs.Fields.{first_bad}
use Rattle.page_layout.proofs.LeafLaws.{slots_from}
use Rattle.page_layout.proofs.leaves.bad_slots.Given as goal

abbrev pub invariant-loop-i : goal.invariant-loop-i
invariant-loop-i l = first_bad (slots_from l.page l.i) ≡ None
