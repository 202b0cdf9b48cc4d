use Rattle.std.proofs.Common.{◌≡◌, take, filter, is_some, is_none}
use Rattle.std.specs.FinMap as map
use Rattle.update_seed.proofs.gathering.parted.Given as goal

abbrev pub invariant-loop-i : goal.invariant-loop-i
invariant-loop-i l = record {
  new : l.new_cores ≡ filter (λ q. is_none (map.get l.labels q)) (take l.i l.members);
  old : l.old_labels ≡ filter (λ q. is_some (map.get l.labels q)) (take l.i l.members);
}
