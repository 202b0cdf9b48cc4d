use Rattle.std.proofs.Common.{◌≡◌, ◌≤◌, ◌+◌, ℕ, List, Option, ◌-◌, ◌∷◌, length, drop, suc, true, false, add-one, ap, sym, subst, ◌∙◌, arith}
use Rattle.std.specs.List.{AllByRecursion}
use Rattle.mtree_node.specs.declared.node.InnerEntry.{InnerEntry, out-InnerEntry}
use Rattle.mtree_node.specs.declared.node.LeafEntry.{LeafEntry}
use Rattle.mtree_node.specs.declared.node.Node.{Node}
use Rattle.mtree_node.specs.Tree.{leaves, IsNode}
use Rattle.mtree_node.specs.Walk.{reaches}
use Rattle.mtree_node.proofs.Rows.{next_row}
use Rattle.mtree_node.proofs.Reach.{leaf_room, leaf_widths, inner_nodes, node_level, child_reached, child_stops, child_counted}
use Rattle.mtree_node.proofs.building.+reach.Goals as goal

pub reaches-reaches_leaf-requires-clause-few : goal.reaches-reaches_leaf-requires-clause-few
reaches-reaches_leaf-requires-clause-few g t c =
    leaf_room g.M.Metric.dist (length c.args.object.now) c.requires.node.0 c.args.level c.requires.node.1 c.args.node.now c.in-Leaf.tag c.in-Leaf.entries c.in-Leaf.is c.requires.node.2

pub reaches-reaches_leaf-requires-clause-vectors :
    goal.reaches-reaches_leaf-requires-clause-vectors
reaches-reaches_leaf-requires-clause-vectors g t c =
    leaf_widths g.M.Metric.dist (length c.args.object.now) c.requires.node.0 c.args.level c.requires.node.1 c.args.node.now c.in-Leaf.tag c.in-Leaf.entries c.in-Leaf.is c.requires.node.2

pub reaches-reaches_below-requires : goal.reaches-reaches_below-requires
reaches-reaches_below-requires g t c κs within =
    let w = length c.args.object.now in
    let level = node_level g.M.Metric.dist w c.requires.node.0 c.args.level c.requires.node.1 c.args.node.now c.requires.node.2 in
    let nodes = subst (AllByRecursion (λ e. (greatest : ℕ) × (over : Option (List ℕ)) × IsNode g.M.Metric.dist w greatest (c.args.level - 1) over (out-InnerEntry e).child)) (sym c.as_slice.ensures)
    (inner_nodes g.M.Metric.dist w c.requires.node.0 c.args.level c.requires.node.1 c.args.node.now c.in-Inner.tag c.in-Inner.entries c.in-Inner.is c.requires.node.2) in
    (omega arith, (within.0, (within.1, (c.requires.width, nodes))))

pub reaches_below-loop-entry-preserved : goal.reaches_below-loop-entry-preserved
reaches_below-loop-entry-preserved g t c =
    let all = c.args.entries.now in
    let i = c.loop-entry.entry-index in
    let e = c.entry-item.result in
    let under : InnerEntry → List LeafEntry = λ x. leaves c.args.level (out-InnerEntry x).child in
    let next : drop i all ≡ e ∷ drop (suc i) all = next_row all i e c.loop-entry-test.true c.entry-item.is in
    let all_reached : reaches g.M.Metric.dist c.args.object.now c.args.radius (under e) ≡ true =
    ap (λ (n : Node). reaches g.M.Metric.dist c.args.object.now c.args.radius (leaves c.args.level n)) (sym c.get.ensures) ∙ (sym c.reaches.ensures.is ∙ c.if-not-reaches.false) in
    let counted : c.reaches.new.steps ≤ c.loop-entry.steps + length (under e) = subst (λ (n : Node). c.reaches.new.steps ≤ c.loop-entry.steps + length (leaves c.args.level n)) c.get.ensures c.reaches.ensures.counted in (
      c.loop-entry.invariant.0 ∙ rw add-one (child_reached g.M.Metric.dist c.args.object.now c.args.radius under e (drop i all) (drop (suc i) all) next all_reached),
      rw add-one (child_counted under e (drop i all) (drop (suc i) all) next c.loop-entry.steps c.reaches.new.steps _ c.loop-entry.invariant.1 counted),
    )

pub reaches_below-returns-then-not-reaches-clause-is : goal.reaches_below-returns-then-not-reaches-clause-is
reaches_below-returns-then-not-reaches-clause-is g t c =
    let all = c.args.entries.now in
    let i = c.loop-entry.entry-index in
    let e = c.entry-item.result in
    let under : InnerEntry → List LeafEntry = λ x. leaves c.args.level (out-InnerEntry x).child in
    let next : drop i all ≡ e ∷ drop (suc i) all = next_row all i e c.loop-entry-test.true c.entry-item.is in
    let none : reaches g.M.Metric.dist c.args.object.now c.args.radius (under e) ≡ false =
    ap (λ (n : Node). reaches g.M.Metric.dist c.args.object.now c.args.radius (leaves c.args.level n)) (sym c.get.ensures) ∙ (sym c.reaches.ensures.is ∙ c.if-not-reaches.true) in
    sym (c.loop-entry.invariant.0 ∙ child_stops g.M.Metric.dist c.args.object.now c.args.radius under e (drop i all) (drop (suc i) all) next none)
