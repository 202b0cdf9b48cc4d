use Rattle.std.proofs.Common.{arith}
use Rattle.mtree_index.proofs.Height.{low_tree}
use Rattle.mtree_index.proofs.Small.{an_entry_for_each, few_entries, few_leaves, few_inner_nodes}
use Rattle.mtree_index.proofs.laws.trees_are_small.Goals as goal

pub returns : goal.returns
returns c = record {
  records = an_entry_for_each;
  entries = few_entries;
  leaves = few_leaves;
  inner_nodes = few_inner_nodes;
  levels = λ dist width greatest h n t few. low_tree dist width greatest h n t.node (omega (arith, few, an_entry_for_each dist width greatest h n t));
}
