use Rattle.std.proofs.Common.{◌≡◌, true}
use Rattle.chain_growth.specs.inside.Work.{Enters}
use Rattle.split_expand.specs.inside.Growing.{IsSound}
use Rattle.split_expand.proofs.growing.Growth.enter_later.Given as goal

abbrev pub invariant-loop-i : goal.invariant-loop-i
invariant-loop-i l = record {
  sound : IsSound l.self;
  entered : Enters l.fn.self.members l.fn.self.later.items l.fn.self.order.keys l.self.order.keys true l.i;
  members : l.self.members ≡ l.fn.self.members;
  seeds : l.self.seeds ≡ l.fn.self.seeds;
  asked : l.self.asked ≡ l.fn.self.asked;
  near : l.self.near ≡ l.fn.self.near;
  later : l.self.later ≡ l.fn.self.later;
}
