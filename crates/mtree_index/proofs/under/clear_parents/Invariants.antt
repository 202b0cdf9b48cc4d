use Rattle.std.proofs.Common.{◌≡◌}
use Rattle.mtree_index.proofs.Walks.{moved}
use Rattle.mtree_index.proofs.under.clear_parents.Given as goal

abbrev pub invariant-loop-i : goal.invariant-loop-i
invariant-loop-i g l = l.entries ≡ moved l.i (g.E.Entry.with_parent 0) l.fn.entries
