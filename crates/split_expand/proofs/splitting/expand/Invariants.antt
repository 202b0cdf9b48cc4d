use Rattle.update_seed.specs.Books.{near_in, core_in}
use Rattle.update_seed.specs.Price.{cost_at}
use Rattle.split_expand.specs.Remaining.{remaining}
use Rattle.split_expand.proofs.Known.{IsKnown}
use Rattle.split_expand.proofs.splitting.expand.Given as goal

abbrev pub invariant-loop-k : goal.invariant-loop-k
invariant-loop-k g l = IsKnown (core_in l.counts) (near_in g.M.Metric.dist l.eps l.records) (cost_at (g.I.RangeIndex.cost l.index) l.records l.eps) (remaining l.counts l.labels l.label) l.seeds l.growth l.groups l.many l.k l.fn.steps l.steps
