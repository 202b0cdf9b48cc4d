use Rattle.std.proofs.Common.{take}
use Rattle.stored_lines.specs.Lines.{AreLines}
use Rattle.stored_lines.proofs.asked.are_lines.Given as goal

abbrev pub invariant-loop-i : goal.invariant-loop-i
invariant-loop-i l = AreLines l.minpts (take l.i l.lines)
