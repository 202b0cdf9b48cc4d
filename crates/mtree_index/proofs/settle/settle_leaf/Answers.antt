use Rattle.std.proofs.Common.{sym, subst}
use Rattle.mtree_node.specs.declared.node.LeafEntry.{LeafEntry}
use Rattle.mtree_node.specs.Lists.{HaveVectorsOf}
use Rattle.mtree_index.specs.declared.split.Half.{Half}
use Rattle.mtree_index.proofs.Leaves.{left_keeps, right_keeps}
use Rattle.mtree_index.proofs.settle.settle_leaf.Goals as goal

pub leaf_over-requires-clause-vectors : goal.leaf_over-requires-clause-vectors
leaf_over-requires-clause-vectors g c =
    let w = c.args.width in
    let have : HaveVectorsOf w c.in_ok-all.all.items = subst (HaveVectorsOf w) (sym c.in_ok-all.ensures) c.requires.vectors in
    subst (λ (h : Half LeafEntry). HaveVectorsOf w h.entries) (sym c.in_ok-left_half.ensures.left) (left_keeps g.M.Metric.dist (g.M.Metric.most w) w c.in_ok-all.all.items have)

pub leaf_over-requires-2-clause-vectors : goal.leaf_over-requires-2-clause-vectors
leaf_over-requires-2-clause-vectors g c =
    let w = c.args.width in
    let have : HaveVectorsOf w c.in_ok-all.all.items = subst (HaveVectorsOf w) (sym c.in_ok-all.ensures) c.requires.vectors in
    subst (λ (h : Half LeafEntry). HaveVectorsOf w h.entries) (sym c.in_ok-left_half.ensures.right) (right_keeps g.M.Metric.dist (g.M.Metric.most w) w c.in_ok-all.all.items have)
