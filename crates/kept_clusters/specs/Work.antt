-- What a change may cost by the number of records alone.
use Rattle.std.specs.Prelude.{ℕ, List}
use Rattle.std.specs.FinMap as map
use Rattle.vec_record.specs.Held.{Held}
use Rattle.plain_dbscan.specs.Marks.{Density}
use Rattle.plain_dbscan.specs.Asked.{asked_of_insertion, asked_of_deletion, work}

-- The most distances of an insertion, whatever the tree.
abbrev pub insertion_work : Density → Held → ℕ → List ℕ → ℕ
insertion_work d records number v =
    let before = map.entries records.vectors in
    let after = map.entries (map.insert records.vectors number v) in
    work (asked_of_insertion d before after number) before after

-- The most distances of a deletion, whatever the tree.
abbrev pub deletion_work : Density → Held → ℕ → ℕ
deletion_work d records number =
    let before = map.entries records.vectors in
    let after = map.entries (map.remove records.vectors number) in
    work (asked_of_deletion d before after number) before after
