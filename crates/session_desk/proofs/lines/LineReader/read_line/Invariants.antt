use Rattle.std.proofs.Common.{◌≡◌, ◌<◌, ◌≤◌, ◌+◌, ◌-◌, true, false, length, cond, IsTrue}
use Rattle.session_desk.specs.Lines.{HasSource}
use Rattle.session_desk.proofs.Skipped.{Skips}
use Rattle.session_desk.proofs.lines.LineReader.read_line.Given as goal

-- what was skipped, what is pending and what is left is all that there was
abbrev pub invariant-pieces : goal.invariant-pieces
invariant-pieces g l = record {
  later : g.S.Source.faults l.fn.source ≤ g.S.Source.faults l.source;
  still : l.fn.self.ended ≡ true → l.self ≡ l.fn.self;
  begun : l.fn.self.ended ≡ true → l.long ≡ false;
  same : l.long ≡ false → l.self.room ≡ l.fn.self.room;
  less : l.long ≡ true → l.self.room < l.fn.self.room;
  skips : IsTrue g.S.Source.tells → HasSource l.fn.self (g.S.Source.left l.fn.source) → Skips l.long l.fn.self (g.S.Source.left l.fn.source) l.self (g.S.Source.left l.source);
  source : IsTrue g.S.Source.tells → HasSource l.fn.self (g.S.Source.left l.fn.source) → HasSource l.self (g.S.Source.left l.source);
}

-- how many bytes may still be taken, and whether the end is still to come
abbrev pub decreases-pieces : goal.decreases-pieces
decreases-pieces g l = (l.self.room + 1 - length l.self.pending) + cond l.self.ended 0 1
