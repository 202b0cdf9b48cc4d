use Rattle.page_layout.proofs.PageLaws.{heads}
use Rattle.page_layout.proofs.laws.heads_have_one_spelling.Goals as goal

pub returns : goal.returns
returns c = heads
