use Rattle.plain_dbscan.proofs.Lawful.{index_near}
use Rattle.plain_dbscan.proofs.laws.index_finds_near.Goals as goal

pub returns : goal.returns
returns c = index_near
