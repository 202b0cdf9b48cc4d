use Rattle.store_image.proofs.StoreContents.{new_stores_load, new_stores_are_due}
use Rattle.store_image.proofs.laws.new_stores_load.Goals as goal

pub returns-clause-loads : goal.returns-clause-loads
returns-clause-loads c = new_stores_load c.heads_have_one_spelling.ensures c.written_are_pages.ensures

pub returns-clause-due : goal.returns-clause-due
returns-clause-due c = new_stores_are_due
