use Rattle.std.proofs.Common.{◌≡◌, ◌≤◌, ◌++◌, ◌-◌, not, take, length, slice_index}
use Rattle.std.specs.List.{filter, range_with_len}
use Rattle.mtree_node.specs.Cost.{is_skipped}
use Rattle.mtree_index.specs.Pruned.{places_left}
use Rattle.mtree_index.proofs.pruning.left.Given as goal

abbrev pub invariant-loop-place : goal.invariant-loop-place
invariant-loop-place l = record {
  room : length l.places ≡ 32;
  few : l.count ≤ l.place;
  kept : take l.count l.places ++ filter (λ k. not (is_skipped l.fn.to_object l.fn.radius (slice_index l.parents k))) (range_with_len l.place (length l.parents - l.place)) ≡ places_left l.fn.to_object l.fn.radius l.parents;
}
