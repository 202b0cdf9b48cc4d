use Rattle.std.proofs.Common.{◌≡◌, ◌-◌}
use Rattle.page_layout.specs.Fields.{zero_fields, first_bad}
use Rattle.page_layout.proofs.field.first_set.Given as goal

abbrev pub invariant-loop-i : goal.invariant-loop-i
invariant-loop-i l = first_bad (zero_fields l.at (l.end - l.at) l.bytes) ≡ first_bad (zero_fields l.i (l.end - l.i) l.bytes)
