use Rattle.std.proofs.Common.{◌≡◌, ◌++◌, map, drop}
use Rattle.mtree_index.proofs.split.radii.Given as goal

abbrev pub invariant-loop-entry : goal.invariant-loop-entry
invariant-loop-entry g l = l.radii.items ++ map g.E.Entry.radius (drop l.entry-index l.entries) ≡ map g.E.Entry.radius l.entries
