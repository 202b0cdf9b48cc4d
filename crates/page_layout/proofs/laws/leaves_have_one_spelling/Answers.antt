use Rattle.page_layout.proofs.LeafPages.{leaves_spelled}
use Rattle.page_layout.proofs.laws.leaves_have_one_spelling.Goals as goal

pub returns : goal.returns
returns c = leaves_spelled
