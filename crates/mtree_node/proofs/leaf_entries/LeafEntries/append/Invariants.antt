use Rattle.std.proofs.Common.{◌≡◌, ◌++◌, ℕ, drop}
use Rattle.mtree_node.specs.Lists.{HaveVectorsOf}
use Rattle.mtree_node.proofs.leaf_entries.LeafEntries.append.Given as goal

abbrev pub invariant-loop-at : goal.invariant-loop-at
invariant-loop-at l = (l.self ++ drop l.at l.more ≡ l.fn.self ++ l.more) × ((w : ℕ) → HaveVectorsOf w l.fn.self → HaveVectorsOf w l.more → HaveVectorsOf w l.self)
