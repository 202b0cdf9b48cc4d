use Rattle.mtree_node.specs.Preorder.{preorder}
use Rattle.tree_objects.proofs.Sizes.{few_leaf_shapes, few_inner_shapes, a_leaf_shape, both_kinds}
use Rattle.tree_objects.proofs.laws.trees_have_few_shapes.Goals as goal

pub returns : goal.returns
returns c = record {
  leaves = few_leaf_shapes;
  some = a_leaf_shape;
  inner_nodes = few_inner_shapes;
  kinds = λ dist width greatest h n t. both_kinds (preorder h n);
}
