use Rattle.std.proofs.Common.{◌≡◌, None}
use Rattle.page_layout.specs.Fields.{first_bad}
use Rattle.page_layout.specs.Leaves.{leaf_rows_fields}
use Rattle.page_layout.proofs.leaves.bad_row.Given as goal

abbrev pub invariant-loop-k : goal.invariant-loop-k
invariant-loop-k l = first_bad (leaf_rows_fields l.page l.at l.k) ≡ None
