use Rattle.std.proofs.Common.{sym, ◌∙◌}
use Rattle.stored_lines.proofs.Lawful.{lawful_more}
use Rattle.stored_lines.proofs.asked.are_lines.Goals as goal

pub loop-i-preserved : goal.loop-i-preserved
loop-i-preserved c =
    lawful_more c.args.minpts c.args.lines.now c.loop-i.i _ c.loop-i-test.true c.loop-i.invariant (c.is_line.ensures c.if-not-is_line.false)
    (sym c.has_number.ensures ∙ c.if-has_number.false)
