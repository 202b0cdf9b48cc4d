-- Moments join through any list of calls.
use Rattle.std.proofs.Common.{List, [], ◌∷◌}
use Rattle.site_disk.specs.State.{SiteState, IsNow, Joins}
use Rattle.site_disk.specs.Runs.{EachJoins, at_end}
use Rattle.site_disk.proofs.Moments.{joins_start, joins_on}

pub joins_all : {T : Type 0} (state : T → SiteState) → ((site : T) → IsNow (state site)) → (first : T) (calls : List T) → EachJoins state first calls → Joins (state first) (state (at_end first calls))
joins_all state law first [] joins = joins_start (state first) (law first)
joins_all state law first (next ∷ rest) joins = joins_on (state first) (state next) (state (at_end next rest)) joins.0 (joins_all state law next rest joins.1)
