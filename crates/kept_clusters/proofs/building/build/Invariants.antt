use Rattle.std.proofs.Common.{◌≡◌, drop}
use Rattle.kept_clusters.specs.Kept.{Stand}
use Rattle.kept_clusters.specs.inside.Moving.{AreMoving}
use Rattle.kept_clusters.proofs.building.build.Given as goal

abbrev pub invariant-loop-number : goal.invariant-loop-number
invariant-loop-number g l = record {
  moving : AreMoving l.fn.records l.records l.built.records l.number-index (drop l.number-index l.number-items);
  stands : Stand g.M.Metric.dist l.built.records l.built.clusters;
  eps : l.built.clusters.eps ≡ l.eps;
  minpts : l.built.clusters.counts.minpts ≡ l.minpts;
}
