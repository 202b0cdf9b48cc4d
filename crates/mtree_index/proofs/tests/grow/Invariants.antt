use Rattle.std.proofs.Common.{◌≡◌, ℕ, ◌<◌, ◌≤◌, None}
use Rattle.std.specs.FinMap as map
use Rattle.mtree_index.specs.Tree.{contents}
use Rattle.mtree_index.proofs.tests.grow.Given as goal

abbrev pub invariant-loop-number : goal.invariant-loop-number
invariant-loop-number g l = record {
  width : l.tree.width ≡ l.vectors.width;
  fresh : (q : ℕ) → l.number ≤ q → map.get (contents l.tree) q ≡ None;
  few : map.len (contents l.tree) < l.number;
}
