use Rattle.page_layout.proofs.SlotLaws.{free_page}
use Rattle.page_layout.proofs.slot.clear_slots.Goals as goal

pub returns : goal.returns
returns c = λ width. free_page width c.clear.new.self c.set.new.self c.clear.ensures c.set.ensures
