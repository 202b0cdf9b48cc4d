use Rattle.node_places.proofs.Parted.{refs_are_by_pages}
use Rattle.node_places.proofs.laws.refs_are_by_pages.Goals as goal

pub returns : goal.returns
returns c = refs_are_by_pages
