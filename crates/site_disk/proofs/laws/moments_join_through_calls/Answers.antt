use Rattle.site_disk.proofs.Runs.{joins_all}
use Rattle.site_disk.proofs.laws.moments_join_through_calls.Goals as goal

pub returns : goal.returns
returns g c = λ first calls told joins. joins_all g.T.Site.state (λ site. g.met.T.Site.is_now site told) first calls joins
