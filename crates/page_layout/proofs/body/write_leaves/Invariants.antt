use Rattle.std.proofs.Common.{◌≡◌, []}
use Rattle.page_layout.specs.Leaves.{leaf_page}
use Rattle.page_layout.proofs.Begun.{begun}
use Rattle.page_layout.proofs.body.write_leaves.Given as goal

abbrev pub invariant-loop-slot : goal.invariant-loop-slot
invariant-loop-slot l = l.out ≡ leaf_page (begun [] 63 l.leaves l.slot)
