use Rattle.std.proofs.Common.{sym, arith}
use Rattle.update_seed.specs.Books.{core_in}
use Rattle.plain_dbscan.proofs.Members.{find_at, find_none}
use Rattle.delete_case.proofs.Counted.{core_tested}
use Rattle.delete_case.proofs.hanging.first_core.Goals as goal

pub returns-then-is_core : goal.returns-then-is_core
returns-then-is_core c =
    let counts = c.args.counts.now in
    sym (find_at (core_in counts) c.args.numbers.now c.loop-i.i c.loop-i-test.true c.loop-i.invariant
    (core_tested counts _ (c.is_core.ensures.0 c.if-is_core.true)))

pub returns : goal.returns
returns c =
    sym (find_none (core_in c.args.counts.now) c.args.numbers.now
    (λ k lt. c.loop-i.invariant k (omega (arith, lt, c.loop-i-test.false))))
