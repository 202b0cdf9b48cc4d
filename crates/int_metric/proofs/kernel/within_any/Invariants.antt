use Rattle.std.proofs.Common.{◌≡◌, ℕ, ◌<◌, ◌≤◌, ◌++◌, nat_le, take, drop, length}
use Rattle.std.specs.List.{AllByRecursion, filter}
use Rattle.vec_record.specs.Table.{row_at}
use Rattle.int_metric.proofs.kernel.within_any.Given as goal

abbrev pub invariant-loop-place : goal.invariant-loop-place
invariant-loop-place g l =
    let is_near = λ (k : ℕ). nat_le (g.K.Kernel.dist l.centre (row_at l.block k)) l.radius in
    record {
      room : length l.near ≡ length l.fn.near;
      few : l.count ≤ l.place-index;
      inside : AllByRecursion (λ k. k < length l.block.rows) (drop l.place-index l.places);
      kept : take l.count l.near ++ filter is_near (drop l.place-index l.places) ≡ filter is_near l.places;
    }
