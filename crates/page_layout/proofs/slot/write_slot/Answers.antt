use Rattle.page_layout.specs.Heads.{values_of}
use Rattle.page_layout.specs.Slots.{lent}
use Rattle.page_layout.proofs.SlotLaws.{slot_put_written}
use Rattle.page_layout.proofs.slot.write_slot.Goals as goal

pub returns : goal.returns
returns c = record {
  written = slot_put_written (values_of c.args.params.now) c.args.place c.width-width.result (lent c.args.slot) c.args.out.now c.put_slot.new.out c.width-width.ensures.value c.requires.place c.requires.slot.vector.len c.put_slot.ensures;
}
