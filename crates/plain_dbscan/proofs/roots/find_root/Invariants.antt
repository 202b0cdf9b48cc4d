use Rattle.std.proofs.Common.{◌≡◌, ◌<◌, List, ℕ, length, get_or}
use Rattle.plain_dbscan.specs.inside.Roots.{AreParents, AreRoots}
use Rattle.plain_dbscan.proofs.roots.find_root.Given as goal

abbrev pub invariant-loop-parents : goal.invariant-loop-parents
invariant-loop-parents l = record {
  lengths : length l.parents ≡ length l.fn.parents;
  below : l.at < length l.fn.parents;
  parents : AreParents l.parents;
  roots : (roots : List ℕ) → AreRoots l.fn.parents roots → AreRoots l.parents roots;
  root : (roots : List ℕ) → AreRoots l.fn.parents roots → get_or roots l.at 0 ≡ get_or roots l.place 0;
}

abbrev pub decreases-loop-parents : goal.decreases-loop-parents
decreases-loop-parents l = l.at
