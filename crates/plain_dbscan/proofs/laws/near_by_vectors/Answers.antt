use Rattle.plain_dbscan.proofs.Lawful.{near_by}
use Rattle.plain_dbscan.proofs.laws.near_by_vectors.Goals as goal

pub returns : goal.returns
returns c = near_by
