use Rattle.plain_dbscan.proofs.Lawful.{lawful}
use Rattle.plain_dbscan.proofs.laws.marks_are_lawful.Goals as goal

pub returns : goal.returns
returns c = lawful
