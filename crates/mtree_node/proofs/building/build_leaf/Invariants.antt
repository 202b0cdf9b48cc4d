use Rattle.std.proofs.Common.{◌≡◌, ◌+◌, ◌≤◌, List, drop}
use Rattle.std.specs.FinMap as finite
use Rattle.std.specs.Option.{option_copied}
use Rattle.vec_record.specs.Held.{HaveWidth}
use Rattle.mtree_node.specs.declared.shape.Shape.{Shape}
use Rattle.mtree_node.specs.Walk.{walk_all, walk_leaf_row}
use Rattle.mtree_node.specs.Lists.{HaveVectorsOf}
use Rattle.mtree_node.specs.Progress.{standing}
use Rattle.mtree_node.proofs.Rows.{behind}
use Rattle.mtree_node.proofs.building.build_leaf.Given as goal

abbrev pub invariant-loop-i : goal.invariant-loop-i
invariant-loop-i g l =
    (l.progress.left.width ≡ l.fn.progress.left.width)
    × (l.progress.next ≡ l.fn.progress.next)
    × HaveWidth l.fn.progress.left.width l.progress.left.vectors
    × (finite.len l.progress.left.vectors ≤ finite.len l.fn.progress.left.vectors)
    × (l.steps + finite.len l.progress.left.vectors ≤ l.fn.steps + finite.len l.fn.progress.left.vectors)
    × ((rest : List Shape) → walk_all (walk_leaf_row g.M.Metric.dist l.place (option_copied l.over)) 0 l.rows (standing rest l.fn.progress)
    ≡ behind l.entries (walk_all (walk_leaf_row g.M.Metric.dist l.place (option_copied l.over)) l.i (drop l.i l.rows) (standing rest l.progress)))
    × HaveVectorsOf l.fn.progress.left.width l.entries
