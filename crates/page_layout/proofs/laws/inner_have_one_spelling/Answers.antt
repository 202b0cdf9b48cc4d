use Rattle.page_layout.proofs.InnerPages.{inner_spelled}
use Rattle.page_layout.proofs.laws.inner_have_one_spelling.Goals as goal

pub returns : goal.returns
returns c = inner_spelled
