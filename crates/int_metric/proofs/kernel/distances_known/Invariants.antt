use Rattle.std.proofs.Common.{◌≡◌, ℕ, ◌<◌, ◌++◌, map, take, drop, length}
use Rattle.std.specs.List.{AllByRecursion}
use Rattle.vec_record.specs.Table.{row_at}
use Rattle.int_metric.proofs.kernel.distances_known.Given as goal

abbrev pub invariant-loop-i : goal.invariant-loop-i
invariant-loop-i g l =
    let far = λ (k : ℕ). g.K.Kernel.dist l.centre (row_at l.block k) in
    record {
      room : length l.far ≡ length l.fn.far;
      inside : AllByRecursion (λ k. k < length l.block.rows) (drop l.i l.places);
      known : take l.i l.far ++ map far (drop l.i l.places) ≡ map far l.places;
    }
