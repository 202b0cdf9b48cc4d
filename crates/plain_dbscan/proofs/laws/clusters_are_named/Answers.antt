use Rattle.plain_dbscan.proofs.Lawful.{clusters_named}
use Rattle.plain_dbscan.proofs.laws.clusters_are_named.Goals as goal

pub returns : goal.returns
returns c d rows a l sorted = clusters_named d rows sorted a l
