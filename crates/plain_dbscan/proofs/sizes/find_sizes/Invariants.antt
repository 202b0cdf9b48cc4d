use Rattle.std.proofs.Common.{◌≡◌, ◌+◌, ◌*◌, ◌≤◌, length}
use Rattle.plain_dbscan.specs.inside.Sizes.{ArePaired}
use Rattle.plain_dbscan.proofs.sizes.find_sizes.Given as goal

abbrev pub invariant-loop-i : goal.invariant-loop-i
invariant-loop-i g l = record {
  paired : ArePaired g.M.Metric.dist l.eps l.rows l.sizes.items l.i;
  few : l.steps ≤ l.fn.steps + l.i * length l.rows.rows;
  counts : l.fn.steps ≤ l.steps;
  room : length l.near.items ≡ length l.rows.rows;
}
