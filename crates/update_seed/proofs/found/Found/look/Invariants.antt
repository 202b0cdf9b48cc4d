use Rattle.std.proofs.Common.{take}
use Rattle.update_seed.specs.inside.Found.{IsLooked}
use Rattle.update_seed.proofs.found.Found.look.Given as goal

abbrev pub invariant-loop-i : goal.invariant-loop-i
invariant-loop-i l = IsLooked l.counts l.labels l.core (take l.i l.near) l.fn.self l.self
