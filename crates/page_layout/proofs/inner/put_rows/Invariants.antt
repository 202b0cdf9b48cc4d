use Rattle.std.proofs.Common.{◌≡◌, ◌++◌, take, drop}
use Rattle.std.specs.List.{flat_map}
use Rattle.vec_record.specs.Limits.{width_of}
use Rattle.page_layout.specs.Inner.{inner_row_at, inner_row_bytes}
use Rattle.page_layout.proofs.inner.put_rows.Given as goal

abbrev pub invariant-loop-k : goal.invariant-loop-k
invariant-loop-k l = l.out ≡ take 16 l.fn.out ++ flat_map inner_row_bytes (take l.k l.rows) ++ drop (inner_row_at (width_of l.params.metric l.params.dim) l.k) l.fn.out
