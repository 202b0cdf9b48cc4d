use Rattle.std.proofs.Common.{◌≡◌, ◌≤◌, ◌-◌, ◌++◌, IsTrue, vec_len}
use Rattle.session_desk.proofs.reading.read_all.Given as goal

-- what was read and what is left is all that there was
abbrev pub invariant-pieces : goal.invariant-pieces
invariant-pieces g l = record {
  given : IsTrue g.S.Source.tells → g.S.Source.left l.fn.source ≡ l.input.items ++ g.S.Source.left l.source;
  few : vec_len l.input ≤ 67108865;
  later : g.S.Source.faults l.fn.source ≤ g.S.Source.faults l.source;
}

abbrev pub decreases-pieces : goal.decreases-pieces
decreases-pieces g l = 67108865 - vec_len l.input
