use Rattle.std.proofs.Common.{◌≡◌, List, ℕ, length, take}
use Rattle.plain_dbscan.specs.inside.Roots.{AreParents, AreRoots, joined_each}
use Rattle.plain_dbscan.proofs.roots.join_each.Given as goal

abbrev pub invariant-loop-j : goal.invariant-loop-j
invariant-loop-j l = record {
  lengths : length l.parents ≡ length l.fn.parents;
  parents : AreParents l.parents;
  roots : (roots : List ℕ) → AreRoots l.fn.parents roots → AreRoots l.parents (joined_each l.i (take l.j-index l.places) roots);
}
