use Rattle.mtree_index.proofs.Small.{cheap}
use Rattle.mtree_index.proofs.laws.queries_are_cheap.Goals as goal

pub returns : goal.returns
returns c = λ dist most t lawful centre radius. cheap dist centre radius t.width (most t.width) t.height t.root lawful.root
