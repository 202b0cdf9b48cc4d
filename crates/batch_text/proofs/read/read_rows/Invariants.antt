use Rattle.std.proofs.Common.{◌-◌, ◌≡◌, ◌≤◌, ◌++◌, ℕ, List}
use Rattle.batch_text.specs.Records.{records_of}
use Rattle.batch_text.specs.Reading.{HasLeft, Holds}
use Rattle.batch_text.proofs.read.read_rows.Given as goal

abbrev pub invariant-rows : goal.invariant-rows
invariant-rows l = (done : List (List (List ℕ))) × (rest : List (List (List ℕ)))
    × (records_of l.body ≡ done ++ rest) × HasLeft l.rdr rest × Holds l.params.metric l.params.dim done l.batch × (l.batch.total ≤ 100001)

abbrev pub decreases-rows : goal.decreases-rows
decreases-rows l = 100001 - l.batch.total
