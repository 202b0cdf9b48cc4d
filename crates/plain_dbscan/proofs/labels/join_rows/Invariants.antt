use Rattle.std.proofs.Common.{◌≡◌, ◌+◌, ◌*◌, ◌≤◌, length}
use Rattle.plain_dbscan.specs.inside.Roots.{AreParents, AreRoots, roots_of}
use Rattle.plain_dbscan.proofs.labels.join_rows.Given as goal

abbrev pub invariant-loop-i : goal.invariant-loop-i
invariant-loop-i g l = record {
  lengths : length l.parents.items ≡ length l.rows.rows;
  parents : AreParents l.parents.items;
  roots : AreRoots l.parents.items (roots_of g.M.Metric.dist l.eps l.rows l.i);
  few : l.steps ≤ l.fn.steps + l.i * length l.rows.rows;
  counts : l.fn.steps ≤ l.steps;
  room : length l.near.items ≡ length l.rows.rows;
}
