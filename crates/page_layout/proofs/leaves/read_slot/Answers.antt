use Rattle.page_layout.proofs.LeafReads.{row_next}
use Rattle.page_layout.proofs.leaves.read_slot.Goals as goal

pub loop-k-preserved : goal.loop-k-preserved
loop-k-preserved c =
    row_next c.args.page.now c.args.at c.loop-k.k c.loop-k.rows c.push.new.self c.word_at-number.result c.word_at-parent.result c.loop-k.invariant c.word_at-number.ensures c.word_at-parent.ensures c.in_ok-push.ensures.ok
