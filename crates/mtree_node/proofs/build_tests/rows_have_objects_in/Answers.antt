use Rattle.std.proofs.Common.{◌≡◌, ◌≤◌, length, sym, ap, subst, arith}
use Rattle.std.specs.List.{AllByRecursion}
use Rattle.mtree_node.specs.Preorder.{InnerRow}
use Rattle.mtree_node.proofs.Rows.{no_rows}
use Rattle.mtree_node.proofs.Known.{all_from}
use Rattle.mtree_node.proofs.build_tests.rows_have_objects_in.Goals as goal

pub loop-row-preserved : goal.loop-row-preserved
loop-row-preserved c =
    λ rest. c.loop-row.invariant (all_from (λ (row : InnerRow). (length row.3 ≡ c.args.width) × (row.2 ≤ c.args.greatest)) c.args.rows.now c.loop-row.row-index c.row-item.result c.loop-row-test.true c.row-item.is (omega (arith, ap length c.as_slice.ensures.value), omega arith) rest)

pub returns : goal.returns
returns c =
    λ _. c.loop-row.invariant (subst (AllByRecursion (λ (row : InnerRow). (length row.3 ≡ c.args.width) × (row.2 ≤ c.args.greatest))) (sym (no_rows c.args.rows.now c.loop-row.row-index c.loop-row-test.false)) tt)
