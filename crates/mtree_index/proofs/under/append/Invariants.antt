use Rattle.std.proofs.Common.{◌≡◌, ◌++◌}
use Rattle.mtree_index.proofs.under.append.Given as goal

abbrev pub invariant-loop-entry : goal.invariant-loop-entry
invariant-loop-entry g l = l.entries ++ l.entry-iterator.rest.items ≡ l.fn.entries ++ l.fn.more
