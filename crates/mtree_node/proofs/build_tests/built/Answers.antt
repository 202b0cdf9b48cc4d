use Rattle.std.proofs.Common.{None, sym, subst}
use Rattle.mtree_node.specs.Tree.{IsLeveled}
use Rattle.mtree_node.proofs.Tags.{node_is_leveled}
use Rattle.mtree_node.proofs.build_tests.built.Goals as goal

pub height-requires : goal.height-requires
height-requires g c =
    let asked = c.can_be_built.ensures c.if-not-can_be_built.false in
    let tree = rw c.in-Ok-Some.field-0-is at c.in-Ok-Some.ensures.tree in
    let leveled = node_is_leveled _ _ _ c.args.height_given None c.in-Ok-Some.root tree.0.node in
    record { leveled = (c.args.height_given, asked.low, subst (IsLeveled c.args.height_given) (sym c.get.ensures) leveled) }
