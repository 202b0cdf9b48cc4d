-- A site that tells nothing: what stands in place of what it would tell, and is never read.
use Rattle.std.specs.Prelude.{false, IsTrue, []}
use Rattle.site_disk.specs.State.{SiteState, IsNow}

abbrev pub silent : SiteState
silent = record { content = []; said = []; may_leave = λ c. Unit {0}; moment = 0; since = λ t s c. Unit {0} }

pub silent_is_now : IsTrue false → IsNow silent
silent_is_now told = absurd (cc told)
