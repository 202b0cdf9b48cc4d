use Rattle.std.proofs.Common.{◌≡◌, ◌++◌, length, map, take, drop}
use Rattle.tree_layout.specs.Layouts.{referred}
use Rattle.tree_layout.proofs.rows.refer.Given as goal

-- the nodes before the next one are done, and the others are as they were
abbrev pub invariant-loop-i : goal.invariant-loop-i
invariant-loop-i l = record {
  long : length l.shapes ≡ length l.fn.shapes;
  done : l.shapes ≡ map (referred l.refs) (take l.i l.fn.shapes) ++ drop l.i l.fn.shapes;
}
