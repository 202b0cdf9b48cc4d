use Rattle.plain_dbscan.proofs.OneMore.{are_changed}
use Rattle.plain_dbscan.proofs.laws.changes_are_one.Goals as goal

pub returns : goal.returns
returns c = are_changed
