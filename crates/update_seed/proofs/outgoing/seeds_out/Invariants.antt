use Rattle.std.proofs.Common.{◌≡◌, ◌+◌, take, drop}
use Rattle.update_seed.specs.Books.{near_in, all_near}
use Rattle.update_seed.specs.Price.{cost_of_all}
use Rattle.update_seed.specs.Outgoing.{AreHung}
use Rattle.update_seed.specs.inside.Found.{AreFound}
use Rattle.update_seed.proofs.outgoing.seeds_out.Given as goal

abbrev pub invariant-loop-i : goal.invariant-loop-i
invariant-loop-i g l =
    let near = near_in g.M.Metric.dist l.eps l.records in
    let cost = cost_of_all (g.I.RangeIndex.cost l.index) l.records l.eps in
    record {
      found : AreFound near l.fn.counts l.labels l.gone l.around (take l.i l.cores) l.found;
      hung : AreHung (all_near g.M.Metric.dist l.eps l.records) (take l.i l.cores) l.fn.counts l.counts;
      spent : l.steps + cost (drop l.i l.cores) ≡ l.fn.steps + cost l.cores;
    }
