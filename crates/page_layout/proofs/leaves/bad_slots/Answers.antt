use Rattle.std.proofs.Common.{sym, arith}
use Rattle.page_layout.specs.Leaves.{leaf_slot_at, leaf_slot_fields}
use Rattle.page_layout.proofs.Runs.{fields_more}
use Rattle.page_layout.proofs.LeafLaws.{slots_bad, slots_done}
use Rattle.page_layout.proofs.leaves.bad_slots.Goals as goal

pub returns-in-Some : goal.returns-in-Some
returns-in-Some c = sym (slots_bad c.args.page.now c.loop-i.i c.in-Some.offset c.loop-i-test.true c.loop-i.invariant (sym c.in-Some.ensures))

pub loop-i-preserved : goal.loop-i-preserved
loop-i-preserved c = fields_more (λ i. leaf_slot_fields c.args.page.now (leaf_slot_at i)) c.loop-i.i c.loop-i.invariant (sym c.in_default.ensures)

pub returns : goal.returns
returns c = sym (slots_done c.args.page.now c.loop-i.i (omega arith) c.loop-i.invariant)
