use Rattle.std.proofs.Common.{◌≡◌}
use Rattle.vec_record.specs.Limits.{width_of}
use Rattle.page_layout.proofs.InnerReads.{rows_from}
use Rattle.page_layout.proofs.inner.read_rows.Given as goal

abbrev pub invariant-loop-k : goal.invariant-loop-k
invariant-loop-k l = l.rows ≡ rows_from (width_of l.params.metric l.params.dim) l.page l.k
