use Rattle.std.proofs.Common.{◌≡◌, ◌++◌, length, ap, ◌∙◌, arith}
use Rattle.std.proofs.lemmas.Grind.{common_steps}
use Rattle.mtree_node.specs.declared.node.InnerEntry.{out-InnerEntry}
use Rattle.mtree_node.specs.declared.node.Node.{Node}
use Rattle.mtree_node.specs.Preorder.{shapes_from}
use Rattle.mtree_node.proofs.Sizes.{push_more, push_place}
use Rattle.mtree_node.proofs.flattening.+push.Goals as goal

pub push_below-loop-entry-preserved : goal.push_below-loop-entry-preserved
push_below-loop-entry-preserved t c =
    let e = c.entry-item.result in
    let i = c.loop-entry.entry-index in
    let before = c.loop-entry.shapes in
    let after = c.push_node.new.shapes in
    let was = c.loop-entry.invariant in
    let is : after ≡ before ++ shapes_from c.args.levels (length before) (out-InnerEntry e).child =
    c.in_ok-push_node.ensures ∙ ap (λ (n : Node). before ++ shapes_from c.args.levels (length before) n) c.get.ensures in (
      push_more c.args.levels before after _ c.args.entries.now i e c.loop-entry-test.true c.entry-item.is is was.0,
      push_place c.args.levels before after _ c.args.entries.now i e c.loop-entry-test.true c.entry-item.is is was.1,
      grind (arith, common_steps, was.2),
    )
