use Rattle.std.proofs.Common.{◌≡◌, ◌≤◌, false, true, IsTrue, []}
use Rattle.std.specs.Prelude.{None}
use Rattle.session_desk.specs.Lines.{HasSource}
use Rattle.session_desk.specs.Passing.{Passes}
use Rattle.session_desk.proofs.requests.next_word.Given as goal

-- empty lines were passed
abbrev pub invariant-lines : goal.invariant-lines
invariant-lines g l = record {
  passed : IsTrue g.S.Source.tells → HasSource l.fn.reader (g.S.Source.left l.fn.source) → Passes None [] None l.fn.reader (g.S.Source.left l.fn.source) l.reader (g.S.Source.left l.source);
  same_source : IsTrue g.S.Source.tells → HasSource l.fn.reader (g.S.Source.left l.fn.source) → HasSource l.reader (g.S.Source.left l.source);
  room : l.reader.room ≤ l.fn.reader.room;
  whole : l.reader.failed ≡ false;
  ended : l.fn.reader.ended ≡ true → l.reader.ended ≡ true;
  later : g.S.Source.faults l.fn.source ≤ g.S.Source.faults l.source;
}

abbrev pub decreases-lines : goal.decreases-lines
decreases-lines g l = l.reader.room
