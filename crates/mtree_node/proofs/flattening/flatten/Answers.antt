use Rattle.std.proofs.Common.{ℕ, ap, length, length-append, arith}
use Rattle.mtree_node.specs.Preorder.{size, shapes_from}
use Rattle.mtree_node.proofs.Sizes.{few_nodes, shapes_length}
use Rattle.mtree_node.proofs.flattening.flatten.Goals as goal

pub push_node-requires-clause-few : goal.push_node-requires-clause-few
push_node-requires-clause-few c =
    let levels = c.height.ensures.only c.requires.leveled.0 c.requires.leveled.2 in
    omega (arith, ap length c.new-shapes.ensures, few_nodes c.height.result c.args.root.now (omega (arith, levels, c.requires.leveled.1)) c.height.ensures.is)

pub returns-clause-count : goal.returns-clause-count
returns-clause-count c =
    λ levels leveled.
    let n = c.args.root.now in
    let start = length c.new-shapes.result in
    omega (arith, ap length c.in_ok-push_node.ensures, length-append c.new-shapes.result (shapes_from c.height.result start n), ap length c.new-shapes.ensures, shapes_length c.height.result start n, ap (λ (k : ℕ). size k n) (c.height.ensures.only levels leveled))
