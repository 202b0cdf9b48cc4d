use Rattle.page_layout.proofs.LeafPages.{leaf_pages}
use Rattle.page_layout.proofs.laws.leaves_are_pages.Goals as goal

pub returns : goal.returns
returns c = leaf_pages
