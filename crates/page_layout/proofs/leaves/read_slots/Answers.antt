use Rattle.std.proofs.Common.{arith, sym, ◌∙◌}
use Rattle.page_layout.proofs.LeafLaws.{slot_few, rows_are, rows_next}
use Rattle.page_layout.proofs.leaves.read_slots.Goals as goal

pub read_slot-requires-clause-few : goal.read_slot-requires-clause-few
read_slot-requires-clause-few c = slot_few c.args.page.now c.loop-i.i c.loop-i-test.true c.requires.lawful

pub loop-i-preserved : goal.loop-i-preserved
loop-i-preserved c = rows_next c.args.page.now c.loop-i.i c.loop-i.slots c.push.new.self c.in_ok-rows.rows c.loop-i.invariant c.in_ok-rows.ensures c.in_ok-push.ensures.ok

pub returns : goal.returns
returns c = c.loop-i.invariant ∙ sym (rows_are c.args.page.now c.loop-i.i (omega arith))
