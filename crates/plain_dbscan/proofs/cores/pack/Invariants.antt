use Rattle.std.proofs.Common.{◌≡◌, map, take}
use Rattle.plain_dbscan.specs.declared.points.Point.{Point}
use Rattle.plain_dbscan.specs.Points.{AreOfWidth}
use Rattle.plain_dbscan.proofs.cores.pack.Given as goal

abbrev pub invariant-loop-point : goal.invariant-loop-point
invariant-loop-point l = record {
  same : l.rows.width ≡ l.width;
  width : AreOfWidth l.rows.width l.points;
  rows : l.rows.rows ≡ map (λ (p : Point). p.vector.now) (take l.point-index l.points);
}
