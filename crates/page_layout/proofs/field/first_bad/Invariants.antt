use Rattle.std.proofs.Common.{◌≡◌, drop}
use Rattle.page_layout.specs.Fields.{first_bad}
use Rattle.page_layout.proofs.field.first_bad.Given as goal

abbrev pub invariant-loop-offset : goal.invariant-loop-offset
invariant-loop-offset l = first_bad l.fields ≡ first_bad (drop l.offset-index l.fields)
