-- What is asked of a warehouse.
use Rattle.std.specs.Prelude.{◌≡◌, ℕ, false, if◌then◌else◌, List, Option, Some, None}
use Rattle.std.specs.List.{AllByRecursion}
use Rattle.std.specs.FinMap as map
use Rattle.vec_record.specs.Held.{Rows}
use Rattle.plain_dbscan.specs.declared.marks.Mark.{Mark}
use Rattle.plain_dbscan.specs.Marks.{mark_of, near_of}
use Rattle.plain_dbscan.specs.Texts.{is_noise_mark}
use Rattle.page_layout.specs.Heads.{Values}
pub use Rattle.kept_clusters.specs.Asked.{members_of}
use Rattle.warehouse_core.specs.Batches.{density_by}

-- the mark of a number, or none where it is absent
abbrev pub mark_on : Values → Rows → ℕ → Option Mark
mark_on v rows n = if map.contains_key rows n then Some (mark_of (density_by v) (map.entries rows) n) else None

-- noise is no member of a cluster
abbrev pub MembersAreNoNoise : Type 0
MembersAreNoNoise =
    (label : ℕ) (marks members : List (ℕ × Mark)) → members_of label marks ≡ Some members
    → AllByRecursion (λ (m : ℕ × Mark). is_noise_mark m.1 ≡ false) members

-- the numbers near a record, rising, itself among them
abbrev pub near_on : Values → Rows → ℕ → List ℕ
near_on v rows n = near_of (density_by v) (map.entries rows) n
