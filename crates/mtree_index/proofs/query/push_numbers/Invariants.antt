use Rattle.std.proofs.Common.{◌≡◌, ◌<◌, ◌++◌, map, drop, length, slice_index}
use Rattle.std.specs.List.{AllByRecursion}
use Rattle.mtree_index.proofs.query.push_numbers.Given as goal

abbrev pub invariant-loop-place : goal.invariant-loop-place
invariant-loop-place l = record {
  inside : AllByRecursion (λ k. k < length l.numbers) (drop l.place-index l.places);
  appended : l.out.items ++ map (slice_index l.numbers) (drop l.place-index l.places) ≡ l.fn.out.items ++ map (slice_index l.numbers) l.places;
}
