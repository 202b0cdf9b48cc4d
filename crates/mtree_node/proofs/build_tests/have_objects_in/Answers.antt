use Rattle.std.proofs.Common.{sym, subst}
use Rattle.std.specs.List.{AllByRecursion}
use Rattle.mtree_node.specs.Walk.{HasObjectsIn}
use Rattle.mtree_node.proofs.Rows.{no_rows}
use Rattle.mtree_node.proofs.Known.{all_from}
use Rattle.mtree_node.proofs.build_tests.have_objects_in.Goals as goal

pub loop-shape-preserved : goal.loop-shape-preserved
loop-shape-preserved c =
    λ rest. c.loop-shape.invariant (all_from (HasObjectsIn c.args.width c.args.greatest) c.args.shapes.now c.loop-shape.shape-index c.shape-item.result c.loop-shape-test.true c.shape-item.is (c.has_objects_in.ensures c.if-not-has_objects_in.false) rest)

pub returns : goal.returns
returns c =
    λ _. c.loop-shape.invariant (subst (AllByRecursion (HasObjectsIn c.args.width c.args.greatest)) (sym (no_rows c.args.shapes.now c.loop-shape.shape-index c.loop-shape-test.false)) tt)
