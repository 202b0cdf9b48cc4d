use Rattle.std.proofs.Common.{take}
use Rattle.stored_lines.specs.inside.Steps.{AreGroups}
use Rattle.stored_lines.proofs.grouping.grouped.Given as goal

abbrev pub invariant-loop-i : goal.invariant-loop-i
invariant-loop-i l = AreGroups l.minpts (take l.i l.lines) l.groups
