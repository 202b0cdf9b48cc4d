use Rattle.std.proofs.Common.{◌≡◌, []}
use Rattle.tree_layout.specs.Layouts.{leaf_for}
use Rattle.page_layout.specs.Leaves.{leaf_page}
use Rattle.store_image.proofs.PlanFilling.{half}
use Rattle.store_image.proofs.filling.fill_leaves.Given as goal

abbrev pub invariant-loop-slot : goal.invariant-loop-slot
invariant-loop-slot l = l.out ≡ leaf_page (half [] (leaf_for l.shapes) l.leaves l.slot)
