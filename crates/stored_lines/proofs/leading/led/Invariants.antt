use Rattle.std.proofs.Common.{take}
use Rattle.stored_lines.specs.inside.Steps.{IsLed}
use Rattle.stored_lines.proofs.leading.led.Given as goal

abbrev pub invariant-loop-i : goal.invariant-loop-i
invariant-loop-i l = IsLed l.minpts l.lines (take l.i l.lines) l.labels
