use Rattle.page_layout.proofs.PageLaws.{written}
use Rattle.page_layout.proofs.laws.written_are_pages.Goals as goal

pub returns : goal.returns
returns c = written
