use Rattle.std.proofs.Common.{◌≡◌, map, take}
use Rattle.tree_layout.specs.Layouts.{tagged}
use Rattle.tree_layout.proofs.laying.tagged_nodes.Given as goal

abbrev pub invariant-loop-shape : goal.invariant-loop-shape
invariant-loop-shape l = l.nodes.items ≡ map tagged (take l.shape-index l.shape-items)
