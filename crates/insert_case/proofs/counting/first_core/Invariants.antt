use Rattle.std.proofs.Common.{◌≡◌, drop}
use Rattle.insert_case.specs.inside.Counting.{first_labelled}
use Rattle.insert_case.proofs.counting.first_core.Given as goal

abbrev pub invariant-loop-i : goal.invariant-loop-i
invariant-loop-i l = first_labelled l.labels (drop l.i l.around) ≡ first_labelled l.labels l.around
