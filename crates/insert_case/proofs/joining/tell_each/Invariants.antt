use Rattle.std.proofs.Common.{◌≡◌, ◌++◌, take, map}
use Rattle.plain_dbscan.specs.Cases.{event}
use Rattle.insert_case.proofs.joining.tell_each.Given as goal

abbrev pub invariant-loop-i : goal.invariant-loop-i
invariant-loop-i l = l.events.items ≡ l.initial.events.items ++ map (λ o. event l.kind o l.to) (take l.i l.old)
