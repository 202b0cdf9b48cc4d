use Rattle.std.proofs.Common.{◌≡◌, ◌+◌, ◌*◌, ◌++◌, map, slice_index}
use Rattle.std.specs.List.{range_with_len}
use Rattle.mtree_index.proofs.split.push_known.Given as goal

abbrev pub invariant-loop-earlier : goal.invariant-loop-earlier
invariant-loop-earlier l =
    l.matrix.items ≡ l.fn.matrix.items ++ map (λ k. slice_index l.fn.matrix.items (k * l.count + l.at)) (range_with_len 0 l.earlier)
