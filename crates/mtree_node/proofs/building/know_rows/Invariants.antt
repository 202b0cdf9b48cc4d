use Rattle.std.proofs.Common.{drop}
use Rattle.std.specs.List.{AllByRecursion}
use Rattle.vec_record.specs.Vectors.{AreBytes}
use Rattle.mtree_node.specs.Preorder.{InnerRow}
use Rattle.mtree_node.proofs.building.know_rows.Given as goal

abbrev pub invariant-loop-row : goal.invariant-loop-row
invariant-loop-row l = AllByRecursion (λ (row : InnerRow). AreBytes row.3) (drop l.row-index l.row-items) → AllByRecursion (λ (row : InnerRow). AreBytes row.3) l.row-items
