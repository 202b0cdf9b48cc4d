use Rattle.std.proofs.Common.{◌≡◌, ℕ, List, length, get_or, map, take}
use Rattle.plain_dbscan.specs.Marks.{numbers_of}
use Rattle.plain_dbscan.specs.Points.{entries_of}
use Rattle.plain_dbscan.specs.inside.Roots.{AreParents, AreRoots}
use Rattle.plain_dbscan.proofs.labels.root_numbers.Given as goal

abbrev pub invariant-loop-i : goal.invariant-loop-i
invariant-loop-i l = record {
  lengths : length l.parents ≡ length l.fn.parents;
  parents : AreParents l.parents;
  roots : (roots : List ℕ) → AreRoots l.fn.parents roots → AreRoots l.parents roots;
  labels : (roots : List ℕ) → AreRoots l.fn.parents roots → l.labels.items ≡ map (λ (k : ℕ). get_or (numbers_of (entries_of l.cores)) k 0) (take l.i roots);
}
