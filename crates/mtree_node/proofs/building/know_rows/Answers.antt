use Rattle.std.proofs.Common.{sym, subst}
use Rattle.std.specs.List.{AllByRecursion}
use Rattle.vec_record.specs.Vectors.{AreBytes}
use Rattle.mtree_node.specs.Preorder.{InnerRow}
use Rattle.mtree_node.proofs.Rows.{no_rows}
use Rattle.mtree_node.proofs.Known.{all_from, known_shape}
use Rattle.mtree_node.proofs.building.know_rows.Goals as goal

pub loop-row-preserved : goal.loop-row-preserved
loop-row-preserved c =
    λ rest. c.loop-row.invariant (all_from (λ (row : InnerRow). AreBytes row.3) c.as_slice-row-items.result.now c.loop-row.row-index c.row-item.result c.loop-row-test.true c.row-item.is c.as_slice.ensures.bytes rest)

pub returns-after-loop-row : goal.returns-after-loop-row
returns-after-loop-row c =
    let all : AllByRecursion (λ (row : InnerRow). AreBytes row.3) c.as_slice-row-items.result.now =
    c.loop-row.invariant (subst (AllByRecursion (λ (row : InnerRow). AreBytes row.3)) (sym (no_rows c.as_slice-row-items.result.now c.loop-row.row-index c.loop-row-test.false)) tt) in
    λ width greatest h. known_shape width greatest c.args.shape.now c.in-Inner.tag c.in-Inner.rows c.in-Inner.is (subst (AllByRecursion (λ (row : InnerRow). AreBytes row.3)) c.as_slice-row-items.ensures all) h
