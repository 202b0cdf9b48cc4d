use Rattle.std.proofs.Common.{◌≡◌, ◌+◌, take, drop}
use Rattle.update_seed.specs.Books.{near_in}
use Rattle.update_seed.specs.Price.{cost_of_all}
use Rattle.update_seed.specs.Offers.{AreOffered}
use Rattle.update_seed.specs.inside.Ties.{AreLinked}
use Rattle.update_seed.proofs.seeds.seeds_in.Given as goal

abbrev pub invariant-loop-i : goal.invariant-loop-i
invariant-loop-i g l =
    let near = near_in g.M.Metric.dist l.eps l.records in
    let cost = cost_of_all (g.I.RangeIndex.cost l.index) l.records l.eps in
    record {
      links : AreLinked near l.labels l.cores (take l.i l.cores) l.ties;
      offered : AreOffered near l.labels (take l.i l.cores) l.fn.counts l.counts;
      spent : l.steps + cost (drop l.i l.cores) ≡ l.fn.steps + cost l.cores;
    }
