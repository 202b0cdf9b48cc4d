use Rattle.std.proofs.Common.{ℕ, drop}
use Rattle.std.specs.List.{AllByRecursion}
use Rattle.mtree_node.specs.Walk.{HasObjectsIn}
use Rattle.mtree_node.specs.Progress.{HasVectorsIn}
use Rattle.mtree_node.proofs.building.know_objects.Given as goal

abbrev pub invariant-loop-shape : goal.invariant-loop-shape
invariant-loop-shape l =
    (width greatest : ℕ) → AllByRecursion (HasObjectsIn width greatest) l.shapes → AllByRecursion (HasVectorsIn width greatest) (drop l.shape-index l.shapes) → AllByRecursion (HasVectorsIn width greatest) l.shapes
