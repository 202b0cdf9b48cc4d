use Rattle.std.proofs.Common.{take}
use Rattle.update_seed.specs.Books.{core_in, near_in}
use Rattle.update_seed.specs.Price.{cost_at}
use Rattle.delete_case.specs.Parting.{AreAllParted, AreAllTold, AreAllPaid}
use Rattle.delete_case.proofs.parting.part_all.Given as goal

abbrev pub invariant-loop-i : goal.invariant-loop-i
invariant-loop-i g l =
    let core = core_in l.counts in
    let near = near_in g.M.Metric.dist l.scene.eps l.scene.records.now in
    let cost = cost_at (g.I.RangeIndex.cost l.scene.index.now) l.scene.records.now l.scene.eps in
    let done = take l.i l.former in
    record {
      parted : AreAllParted core near l.fn.labels done l.labels;
      told : AreAllTold l.fn.labels done l.labels l.fn.out l.out;
      paid : AreAllPaid core near cost l.fn.labels done l.fn.steps l.steps;
    }
