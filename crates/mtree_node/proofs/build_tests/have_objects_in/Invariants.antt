use Rattle.std.proofs.Common.{drop}
use Rattle.std.specs.List.{AllByRecursion}
use Rattle.mtree_node.specs.Walk.{HasObjectsIn}
use Rattle.mtree_node.proofs.build_tests.have_objects_in.Given as goal

abbrev pub invariant-loop-shape : goal.invariant-loop-shape
invariant-loop-shape l = AllByRecursion (HasObjectsIn l.width l.greatest) (drop l.shape-index l.shapes) → AllByRecursion (HasObjectsIn l.width l.greatest) l.shapes
