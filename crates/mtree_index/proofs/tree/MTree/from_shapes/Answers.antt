use Rattle.std.proofs.Common.{Option, sym, subst}
use Rattle.mtree_node.specs.declared.node.Node.{Node}
use Rattle.mtree_node.specs.Walk.{IsTreeOf}
use Rattle.mtree_index.proofs.Shapes.{tree_holds}
use Rattle.mtree_index.proofs.tree.MTree.from_shapes.Goals as goal

pub returns-clause-contents : goal.returns-clause-contents
returns-clause-contents g c =
    let r = c.args.records.now in
    let most = g.M.Metric.most r.width in
    tree_holds g.M.Metric.dist r.width most c.args.height c.args.shapes.now r.vectors c.unboxed.result
    (subst (λ (o : Option Node). IsTreeOf g.M.Metric.dist r.width most c.args.height c.args.shapes.now r.vectors o) (sym c.unboxed.ensures) c.in_ok-root.ensures.tree)
