use Rattle.std.proofs.Common.{◌≡◌, false}
use Rattle.session_tests.proofs.tests.lines.notes.Given as goal

abbrev pub invariant-loop : goal.invariant-loop
invariant-loop l = l.reader.failed ≡ false
