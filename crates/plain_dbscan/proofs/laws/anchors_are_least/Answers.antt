use Rattle.plain_dbscan.proofs.Lawful.{anchored}
use Rattle.plain_dbscan.proofs.laws.anchors_are_least.Goals as goal

pub returns : goal.returns
returns c d rows a sorted = anchored d rows sorted a
