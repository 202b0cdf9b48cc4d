use Rattle.std.proofs.Common.{◌≡◌, length}
use Rattle.std.specs.Vec.Iter.{into_iter_items, into_iter_len}
use Rattle.page_layout.specs.Heads.{values_of}
use Rattle.warehouse_core.specs.States.{StandBy}
use Rattle.warehouse_core.proofs.Applied.{Goes}
use Rattle.warehouse_core.proofs.changing.apply_changes.Given as goal

abbrev pub invariant-loop-change : goal.invariant-loop-change
invariant-loop-change g l =
    (goal.iterator-loop-change g).can_next l.change-iterator ×
    (goal.iterator-loop-change g).is_finite l.change-iterator
    × (into_iter_len l.change-iterator ≡ length (into_iter_items l.change-iterator))
    × Goes (StandBy g.M.Metric.dist (values_of l.params) l.fn.records l.fn.clusters) g.M.Metric.dist g.M.Metric.most (values_of l.params) l.fn.records l.fn.clusters.tree l.fn.steps l.fn.changes l.records l.clusters l.events l.steps (into_iter_items l.change-iterator)
