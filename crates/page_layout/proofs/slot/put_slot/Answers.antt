use Rattle.std.proofs.Common.{arith}
use Rattle.page_layout.specs.Slots.{lent}
use Rattle.page_layout.proofs.SlotLaws.{slot_put}
use Rattle.page_layout.proofs.slot.put_slot.Goals as goal

pub returns : goal.returns
returns c = slot_put c.args.at c.args.out.now c.put_words.new.out c.put.new.self c.as_slice.result.now (lent c.args.slot) (omega (arith, c.put_words.ensures.page, c.requires)) c.as_slice.ensures.value c.put_words.ensures.written c.put.ensures
