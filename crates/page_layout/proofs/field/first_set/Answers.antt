use Rattle.std.proofs.Common.{◌∙◌, arith, rules}
use Rattle.page_layout.proofs.Places.{zeros_more}
use Rattle.page_layout.proofs.field.first_set.Goals as goal

pub loop-i-preserved : goal.loop-i-preserved
loop-i-preserved c = c.loop-i.invariant ∙ zeros_more c.loop-i.i c.args.end c.args.bytes.now (omega arith) (search rules)
