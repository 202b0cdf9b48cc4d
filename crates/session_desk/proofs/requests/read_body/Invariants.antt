use Rattle.std.proofs.Common.{◌≡◌, ◌≤◌, false, true, IsTrue, [], List, ℕ}
use Rattle.std.specs.Prelude.{Some}
use Rattle.session_desk.specs.Lines.{HasSource}
use Rattle.session_desk.specs.Passing.{Passes, HasLines, HasRoom}
use Rattle.session_desk.proofs.requests.read_body.Given as goal

-- lines of the body were passed and kept
abbrev pub invariant-lines : goal.invariant-lines
invariant-lines g l = record {
  passed : IsTrue g.S.Source.tells → HasSource l.fn.reader (g.S.Source.left l.fn.source)
      → (lines : List (List ℕ)) × HasLines l.body lines × Passes (Some []) [] (Some lines) l.fn.reader (g.S.Source.left l.fn.source) l.reader (g.S.Source.left l.source);
  same_source : IsTrue g.S.Source.tells → HasSource l.fn.reader (g.S.Source.left l.fn.source) → HasSource l.reader (g.S.Source.left l.source);
  bytes : HasRoom l.fn.reader.room l.body l.reader;
  room : l.reader.room ≤ l.fn.reader.room;
  whole : l.reader.failed ≡ false;
  ended : l.fn.reader.ended ≡ true → l.reader.ended ≡ true;
  later : g.S.Source.faults l.fn.source ≤ g.S.Source.faults l.source;
}

abbrev pub decreases-lines : goal.decreases-lines
decreases-lines g l = l.reader.room
