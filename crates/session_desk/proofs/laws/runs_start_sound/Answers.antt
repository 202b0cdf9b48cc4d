use Rattle.session_desk.proofs.LifeLaws.{runs-start-sound}
use Rattle.session_desk.proofs.laws.runs_start_sound.Goals as goal

pub returns : goal.returns
returns g c = runs-start-sound g.T.Site.state
