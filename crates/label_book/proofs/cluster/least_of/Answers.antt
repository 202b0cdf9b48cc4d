use Rattle.label_book.proofs.Founded.{next_least}
use Rattle.label_book.proofs.cluster.least_of.Goals as goal

pub loop-i-preserved : goal.loop-i-preserved
loop-i-preserved c = next_least c.args.numbers.now c.loop-i.i c.loop-i.least c.min-least.result c.loop-i-test.true c.loop-i.invariant c.min-least.ensures
