use Rattle.page_layout.proofs.LeafWrites.{free_leaves}
use Rattle.page_layout.proofs.leaves.clear_leaves.Goals as goal

pub returns : goal.returns
returns c = free_leaves c.clear.new.self c.set.new.self c.clear.ensures c.set.ensures
