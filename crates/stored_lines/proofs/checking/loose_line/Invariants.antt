use Rattle.std.proofs.Common.{◌≡◌, drop}
use Rattle.stored_lines.specs.Lines.{loose_from}
use Rattle.stored_lines.specs.inside.Steps.{core_in, leads_in}
use Rattle.stored_lines.proofs.checking.loose_line.Given as goal

abbrev pub invariant-loop-i : goal.invariant-loop-i
invariant-loop-i l =
    loose_from (core_in l.counts) (leads_in l.labels) 0 l.lines
    ≡ loose_from (core_in l.counts) (leads_in l.labels) l.i (drop l.i l.lines)
