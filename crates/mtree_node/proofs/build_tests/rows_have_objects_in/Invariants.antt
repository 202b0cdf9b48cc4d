use Rattle.std.proofs.Common.{◌≡◌, ◌≤◌, length, drop}
use Rattle.std.specs.List.{AllByRecursion}
use Rattle.mtree_node.specs.Preorder.{InnerRow}
use Rattle.mtree_node.proofs.build_tests.rows_have_objects_in.Given as goal

abbrev pub invariant-loop-row : goal.invariant-loop-row
invariant-loop-row l = AllByRecursion (λ (row : InnerRow). (length row.3 ≡ l.width) × (row.2 ≤ l.greatest)) (drop l.row-index l.rows) → AllByRecursion (λ (row : InnerRow). (length row.3 ≡ l.width) × (row.2 ≤ l.greatest)) l.rows
