use Rattle.std.proofs.Common.{◌≡◌, ◌+◌, take, drop}
use Rattle.update_seed.specs.Books.{all_near}
use Rattle.update_seed.specs.Price.{cost_of_all}
use Rattle.update_seed.specs.Outgoing.{AreHung}
use Rattle.delete_case.proofs.hanging.rehang.Given as goal

abbrev pub invariant-loop-i : goal.invariant-loop-i
invariant-loop-i g l =
    let records = l.scene.records.now in
    let cost = cost_of_all (g.I.RangeIndex.cost l.scene.index.now) records l.scene.eps in
    record {
      hung : AreHung (all_near g.M.Metric.dist l.scene.eps records) (take l.i l.loose) l.fn.counts l.counts;
      spent : l.steps + cost (drop l.i l.loose) ≡ l.fn.steps + cost l.loose;
    }
