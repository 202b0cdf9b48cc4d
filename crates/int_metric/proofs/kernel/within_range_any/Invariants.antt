use Rattle.std.proofs.Common.{◌≡◌, ℕ, ◌≤◌, ◌+◌, ◌-◌, ◌++◌, nat_le, take, length}
use Rattle.std.specs.List.{filter, range_with_len}
use Rattle.vec_record.specs.Table.{row_at}
use Rattle.int_metric.proofs.kernel.within_range_any.Given as goal

abbrev pub invariant-loop-place : goal.invariant-loop-place
invariant-loop-place g l =
    let is_near = λ (k : ℕ). nat_le (g.K.Kernel.dist l.centre (row_at l.block k)) l.radius in
    record {
      room : length l.near ≡ length l.fn.near;
      few : l.count + l.fn.rows.start ≤ l.place;
      kept : take l.count l.near ++ filter is_near (range_with_len l.place (l.fn.rows.end - l.place)) ≡ filter is_near (range_with_len l.fn.rows.start (l.fn.rows.end - l.fn.rows.start));
    }
