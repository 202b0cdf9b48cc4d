use Rattle.std.proofs.Common.{◌≡◌, ◌+◌, ◌-◌, ◌≤◌, length, map, take}
use Rattle.std.specs.List.{AllByRecursion, flat_map}
use Rattle.vec_record.specs.Vectors.{IsVector}
use Rattle.mtree_index.specs.Split.{row}
use Rattle.mtree_index.specs.inside.Pairs.{pairs}
use Rattle.mtree_index.proofs.split.distances.Given as goal

abbrev pub invariant-loop-at : goal.invariant-loop-at
invariant-loop-at g l =
    let objects = map g.E.Entry.object l.entries in
    record {
      rows : l.matrix.items ≡ flat_map (λ o. row g.M.Metric.dist o objects) (take l.at objects);
      vectors : AllByRecursion (IsVector l.width) (take l.at objects);
      counted : l.steps + pairs (length l.entries - l.at) ≤ l.fn.steps + pairs (length l.entries);
    }
