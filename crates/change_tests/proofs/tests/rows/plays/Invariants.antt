use Rattle.std.specs.Ordering.{nat_cmp}
use Rattle.std.specs.FinMap.Entries.{is_sorted}
use lib.Dec.{T}
use Rattle.mtree_index.specs.Tree.{contents}
use Rattle.update_seed.specs.Books.{Fits}
use Rattle.change_tests.proofs.tests.rows.plays.Given as goal

abbrev pub invariant-loop-record : goal.invariant-loop-record
invariant-loop-record g l = record {
  fits : Fits l.house.index.width (contents l.house.index) l.house.records l.house.counts l.house.labels;
  rising : T (is_sorted nat_cmp l.plain.marks);
}

abbrev pub invariant-loop-number : goal.invariant-loop-number
invariant-loop-number g l = record {
  fits : Fits l.house.index.width (contents l.house.index) l.house.records l.house.counts l.house.labels;
  rising : T (is_sorted nat_cmp l.plain.marks);
}
