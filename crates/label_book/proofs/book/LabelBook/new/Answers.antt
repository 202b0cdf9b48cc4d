use Rattle.label_book.proofs.Views.{kept_empty, labels_empty}
use Rattle.label_book.proofs.book.LabelBook.new.Goals as goal

pub invariant_of-result : goal.invariant_of-result
invariant_of-result c = kept_empty c.new.result c.new-2.result c.new.ensures c.new-2.ensures.empty

pub returns : goal.returns
returns c = labels_empty c.new.result c.new-2.result c.new.ensures
