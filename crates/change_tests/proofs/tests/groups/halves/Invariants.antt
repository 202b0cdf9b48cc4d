use Rattle.mtree_index.specs.Tree.{contents}
use Rattle.update_seed.specs.Books.{Fits}
use Rattle.change_tests.proofs.tests.groups.halves.Given as goal

abbrev pub invariant-loop-k : goal.invariant-loop-k
invariant-loop-k g l = Fits l.house.index.width (contents l.house.index) l.house.records l.house.counts l.house.labels
