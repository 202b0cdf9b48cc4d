use Rattle.std.proofs.Common.{arith}
use Rattle.std.proofs.lemmas.Bool.Decides.{nat_tests}
use Rattle.session_desk.proofs.LineParts.{last_returns}
use Rattle.session_desk.proofs.lines.has_return.Goals as goal

pub returns-then-not-is_empty : goal.returns-then-not-is_empty
returns-then-not-is_empty c = last_returns c.args.bytes.now (grind (arith, nat_tests, c.if-not-is_empty.ensures))
