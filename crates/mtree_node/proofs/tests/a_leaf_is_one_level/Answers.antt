use Rattle.std.proofs.Common.{arith}
use Rattle.mtree_node.proofs.tests.a_leaf_is_one_level.Goals as goal

pub height-requires-2 : goal.height-requires-2
height-requires-2 g c = record { leveled = (2, omega arith, c.in_ok-high.ensures) }
