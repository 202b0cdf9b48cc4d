use Rattle.tree_layout.proofs.Sized.{layouts_are_sized}
use Rattle.tree_layout.proofs.laws.layouts_are_sized.Goals as goal

pub returns : goal.returns
returns c = layouts_are_sized
