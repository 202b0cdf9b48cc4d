use Rattle.update_seed.specs.inside.Split.{AreMade}
use Rattle.update_seed.proofs.outgoing.former_of.Given as goal

abbrev pub invariant-loop-i : goal.invariant-loop-i
invariant-loop-i l = AreMade l.lost.items l.seeds.items l.labels.items l.i l.list
