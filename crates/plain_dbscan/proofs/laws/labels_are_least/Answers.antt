use Rattle.plain_dbscan.proofs.Lawful.{labelled}
use Rattle.plain_dbscan.proofs.laws.labels_are_least.Goals as goal

pub returns : goal.returns
returns c d rows a sorted = labelled d rows sorted a
