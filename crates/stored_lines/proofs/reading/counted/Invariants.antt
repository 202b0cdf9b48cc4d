use Rattle.std.proofs.Common.{◌≡◌, take}
use Rattle.stored_lines.specs.Laws.{counts_of}
use Rattle.stored_lines.proofs.reading.counted.Given as goal

abbrev pub invariant-loop-i : goal.invariant-loop-i
invariant-loop-i l = l.counts ≡ counts_of l.minpts (take l.i l.lines)
