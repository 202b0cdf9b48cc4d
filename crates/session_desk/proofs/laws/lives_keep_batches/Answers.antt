use Rattle.session_desk.proofs.LifeLaws.{lives-keep-batches}
use Rattle.session_desk.proofs.laws.lives_keep_batches.Goals as goal

pub returns : goal.returns
returns g c = lives-keep-batches g.T.Site.state
