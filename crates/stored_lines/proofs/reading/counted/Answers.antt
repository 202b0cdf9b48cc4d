use Rattle.stored_lines.proofs.Entered.{fresh, entered_more}
use Rattle.stored_lines.proofs.reading.counted.Goals as goal

pub enter-requires : goal.enter-requires
enter-requires c = fresh c.args.minpts c.args.lines.now c.loop-i.i _ c.loop-i.counts c.requires c.loop-i-test.true c.loop-i.invariant

pub loop-i-preserved : goal.loop-i-preserved
loop-i-preserved c =
    entered_more c.args.minpts c.args.lines.now c.loop-i.i _ c.loop-i.counts c.enter.new.self c.named.result c.requires c.loop-i-test.true c.loop-i.invariant c.named.ensures c.in_ok-enter.ensures.ok
