use Rattle.plain_dbscan.proofs.Classes.{are_grown}
use Rattle.plain_dbscan.proofs.laws.more_cores.Goals as goal

pub returns : goal.returns
returns c = are_grown
