use Rattle.std.proofs.Common.{take}
use Rattle.insert_case.specs.Joining.{AreAllJoined}
use Rattle.insert_case.proofs.Told.{AreOf}
use Rattle.insert_case.proofs.joining.join_all.Given as goal

abbrev pub invariant-loop-i : goal.invariant-loop-i
invariant-loop-i l = record {
  joined : AreAllJoined l.fn.labels (take l.i l.groups) l.labels;
  told : AreOf (take l.i l.groups) l.events.items;
}
