use Rattle.std.proofs.Common.{◌≡◌, ◌++◌, take}
use Rattle.insert_case.proofs.joining.append.Given as goal

abbrev pub invariant-loop-i : goal.invariant-loop-i
invariant-loop-i l = l.out ≡ l.initial.out ++ take l.i l.events
