use Rattle.std.proofs.Common.{◌≡◌, ◌++◌, length, map, take, drop}
use Rattle.node_refs.specs.Laws.{referring}
use Rattle.tree_layout.proofs.rows.refer_rows.Given as goal

-- the entries before the next one are done, and the others are as they were
abbrev pub invariant-loop-i : goal.invariant-loop-i
invariant-loop-i l = record {
  long : length l.rows ≡ length l.fn.rows;
  done : l.rows ≡ map (referring l.refs) (take l.i l.fn.rows) ++ drop l.i l.fn.rows;
}
