use Rattle.label_book.proofs.Sorting.{among}
use Rattle.label_book.proofs.parting.is_among.Goals as goal

pub returns : goal.returns
returns c = among c.args.cores.now c.args.core c.contains.result c.contains.ensures.value
