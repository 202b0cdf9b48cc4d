use Rattle.page_layout.proofs.InnerPages.{inner_pages}
use Rattle.page_layout.proofs.laws.inner_are_pages.Goals as goal

pub returns : goal.returns
returns c = inner_pages
