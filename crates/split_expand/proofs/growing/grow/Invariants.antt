use Rattle.std.proofs.Common.{ℕ, Bool, ◌-◌, ◌≤◌, length}
use Rattle.update_seed.specs.Books.{near_in}
use Rattle.update_seed.specs.Price.{cost_at}
use Rattle.chain_growth.proofs.Work.{IsGrowing}
use Rattle.split_expand.specs.inside.Growing.{IsSound, GoesOn, IsBegun}
use Rattle.split_expand.proofs.growing.grow.Given as goal

abbrev pub invariant-asks : goal.invariant-asks
invariant-asks g l = record {
  sound : IsSound l.growth;
  on : GoesOn l.fn.growth l.growth;
  few : l.growth.asked ≤ length l.growth.order.keys;
  growing : (core : ℕ → Bool) (b : IsBegun core (near_in g.M.Metric.dist l.eps l.records) l.fn.growth)
      → IsGrowing core (near_in g.M.Metric.dist l.eps l.records) (cost_at (g.I.RangeIndex.cost l.index) l.records l.eps) l.fn.growth.members l.fn.growth.seeds.keys b.done b.seed l.growth.order.keys l.growth.asked l.fn.steps l.steps;
}

abbrev pub decreases-asks : goal.decreases-asks
decreases-asks g l = length l.growth.members - l.growth.asked
