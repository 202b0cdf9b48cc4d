use Rattle.store_image.proofs.StoreContents.{heads_count_pages}
use Rattle.store_image.proofs.laws.heads_count_pages.Goals as goal

pub returns : goal.returns
returns c = heads_count_pages c.heads_have_one_spelling.ensures c.written_are_pages.ensures
