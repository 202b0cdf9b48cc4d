use Rattle.std.proofs.Common.{◌≡◌}
use Rattle.split_expand.specs.inside.Growing.{IsSound, HasMet}
use Rattle.split_expand.proofs.growing.Growth.enter_seeds.Given as goal

abbrev pub invariant-loop-i : goal.invariant-loop-i
invariant-loop-i l = record {
  sound : IsSound l.self;
  met : HasMet l.fn.self l.self l.i;
  members : l.self.members ≡ l.fn.self.members;
  seeds : l.self.seeds ≡ l.fn.self.seeds;
  asked : l.self.asked ≡ l.fn.self.asked;
  near : l.self.near ≡ l.fn.self.near;
}
