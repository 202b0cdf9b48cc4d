use Rattle.std.proofs.Common.{rules, ◌∙◌, sym, length}
use Rattle.mtree_node.specs.declared.node.InnerEntry.{out-InnerEntry}
use Rattle.mtree_node.specs.declared.node.Node.TheViews.{the_lemmas}
use borrow.Enum.Total.{values_d}
use Rattle.mtree_node.specs.contracts.node.Node as Node
use Rattle.mtree_index.proofs.Opening.{both_ok, joined_leaves}
use Rattle.mtree_index.proofs.joining.join.Goals as goal

pub returns-in-Leaf-Leaf-clause-is : goal.returns-in-Leaf-Leaf-clause-is
returns-in-Leaf-Leaf-clause-is g c =
    let left = c.args.left.now in
    let most = g.M.Metric.most (length (out-InnerEntry left).object) in
    let second = sym c.into_inner.ensures ∙ c.in-Leaf-Leaf.is-1 in
    both_ok _ _ _ c.join_leaves.result (λ pair one two over. joined_leaves g.M.Metric.dist most left c.args.right _ (values_d Node.enum 0 c.in-Leaf-Leaf.tag-1-own.given.0 c.get_mut.result.now).0 c.in-Leaf-Leaf.right_tag c.join_leaves.new.radius (values_d Node.enum 0 c.in-Leaf-Leaf.tag-1-own.given.0 c.get_mut.result.now).1.0 c.in-Leaf-Leaf.more c.join_leaves.new.entries (search (rules, the_lemmas)) second (search (rules, the_lemmas)) pair one two over) c.join_leaves.ensures.one c.join_leaves.ensures.two
