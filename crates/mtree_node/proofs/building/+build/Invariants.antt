use Rattle.std.proofs.Common.{◌≡◌, ◌+◌, ◌*◌, ◌≤◌, length, drop, Some}
use Rattle.std.specs.Option.{option_copied}
use Rattle.std.specs.FinMap as finite
use Rattle.vec_record.specs.Held.{HaveWidth}
use Rattle.mtree_node.specs.Tree.{leaves}
use Rattle.mtree_node.specs.Walk.{walk, walk_all, walk_inner_row}
use Rattle.mtree_node.specs.Progress.{standing, ahead}
use Rattle.mtree_node.proofs.Rows.{behind}
use Rattle.mtree_node.proofs.Bounds.{AreWhole}
use Rattle.mtree_node.proofs.building.+build.Given as goal

abbrev pub decreases-build_inner : goal.decreases-build_inner
decreases-build_inner g l = 3 * l.level + 2

abbrev pub decreases-build_inner_entry : goal.decreases-build_inner_entry
decreases-build_inner_entry g l = 3 * l.level + 1

abbrev pub decreases-build_node : goal.decreases-build_node
decreases-build_node g l = 3 * l.level

abbrev pub invariant-build_inner-loop-i : goal.invariant-build_inner-loop-i
invariant-build_inner-loop-i g l =
    let dist = g.M.Metric.dist in
    let row = walk_inner_row dist l.level (λ object t. walk dist l.level (Some object) t) (leaves l.level) l.place (option_copied l.over) in
    record {
      walked : walk_all row 0 l.rows (standing (ahead l.shapes l.fn.progress) l.fn.progress) ≡ behind l.entries (walk_all row l.i (drop l.i l.rows) (standing (ahead l.shapes l.progress) l.progress));
      width : l.progress.left.width ≡ l.fn.progress.left.width;
      next : l.progress.next ≤ length l.shapes;
      vectors : HaveWidth l.progress.left.width l.progress.left.vectors;
      counted : AreWhole l.level (finite.len l.fn.progress.left.vectors) (finite.len l.progress.left.vectors) l.fn.steps l.steps;
    }
