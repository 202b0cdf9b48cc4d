use Rattle.std.proofs.Common.{◌≡◌, None}
use Rattle.page_layout.specs.Fields.{first_bad}
use Rattle.page_layout.specs.Heads.{values_of}
use Rattle.page_layout.specs.Inner.{inner_rows_fields}
use Rattle.page_layout.proofs.inner.bad_rows.Given as goal

abbrev pub invariant-loop-k : goal.invariant-loop-k
invariant-loop-k l = first_bad (inner_rows_fields (values_of l.params) l.page l.k) ≡ None
