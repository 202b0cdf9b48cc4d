use Rattle.std.proofs.Common.{sym, subst}
use Rattle.std.specs.List.{AllByRecursion}
use Rattle.mtree_node.proofs.Rows.{no_rows}
use Rattle.mtree_node.specs.Walk.{HasObjectsIn}
use Rattle.mtree_node.specs.Progress.{HasVectorsIn}
use Rattle.mtree_node.proofs.Known.{all_from}
use Rattle.mtree_node.proofs.Reach.{all_at}
use Rattle.mtree_node.proofs.building.know_objects.Goals as goal

pub loop-shape-preserved : goal.loop-shape-preserved
loop-shape-preserved c =
    λ width greatest given rest. c.loop-shape.invariant width greatest given
    (all_from (HasVectorsIn width greatest) c.args.shapes.now c.loop-shape.shape-index c.shape-item.result c.loop-shape-test.true c.shape-item.is
    (c.know_rows.ensures width greatest (all_at (HasObjectsIn width greatest) c.args.shapes.now c.loop-shape.shape-index c.shape-item.result c.loop-shape-test.true c.shape-item.is given)) rest)

pub returns : goal.returns
returns c = λ width greatest given. c.loop-shape.invariant width greatest given (subst (AllByRecursion (HasVectorsIn width greatest)) (sym (no_rows c.args.shapes.now c.loop-shape.shape-index c.loop-shape-test.false)) tt)
