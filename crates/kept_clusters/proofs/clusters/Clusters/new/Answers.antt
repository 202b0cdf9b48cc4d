use Rattle.kept_clusters.proofs.Empty.{empty_stands}
use Rattle.kept_clusters.proofs.clusters.Clusters.new.Goals as goal

pub returns-clause-stands : goal.returns-clause-stands
returns-clause-stands g c =
    rw (c.empty.ensures, c.new.ensures, c.new-2.ensures) (empty_stands g.M.Metric.dist c.args.width c.args.eps c.args.minpts)
