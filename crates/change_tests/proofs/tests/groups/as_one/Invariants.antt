use Rattle.mtree_index.specs.Tree.{contents}
use Rattle.update_seed.specs.Books.{Fits}
use Rattle.change_tests.proofs.tests.groups.as_one.Given as goal

abbrev pub invariant-loop-i : goal.invariant-loop-i
invariant-loop-i g l = Fits l.house.index.width (contents l.house.index) l.house.records l.house.counts l.house.labels
