use Rattle.plain_dbscan.proofs.OneMore.{changes_by_one}
use Rattle.plain_dbscan.proofs.laws.one_more_record.Goals as goal

pub returns : goal.returns
returns c = changes_by_one
