-- Density clusters of numbered vectors: what the mark of each number is.
use Rattle.std.specs.Prelude.{ℕ, Bool, false, List, length, Option, Some, None, nat_le, ◌&&◌, if◌then◌else◌, find, filter, map}
use Rattle.std.specs.Ordering.{nat_cmp}
use Rattle.std.specs.FinMap.Entries.{find as value_at}
use Rattle.std.specs.Option.{is_some}
use Rattle.plain_dbscan.specs.declared.marks.Mark.{Mark}
use Rattle.plain_dbscan.specs.declared.marks.Mark.TheVariants.{Core, Border, Noise}
use Rattle.plain_dbscan.specs.Chains.{label_of}

-- The records: numbers with their vectors, by rising number.
abbrev pub Entries : Type 0
Entries = List (ℕ × List ℕ)

-- The numbers of the records.
abbrev pub numbers_of : Entries → List ℕ
numbers_of rows = map (λ (e : ℕ × List ℕ). e.0) rows

-- A distance, how far a neighbour may be, and how many neighbours make a core.
pub record Density : Type 0 where
  pub dist : List ℕ → List ℕ → ℕ
  pub eps : ℕ
  pub minpts : ℕ

abbrev pub density : (List ℕ → List ℕ → ℕ) → ℕ → ℕ → Density
density dist eps minpts = record { dist = dist; eps = eps; minpts = minpts }

-- Whether two vectors are there, at most eps apart.
abbrev pub within : Density → Option (List ℕ) → Option (List ℕ) → Bool
within d None v = false
within d (Some u) None = false
within d (Some u) (Some v) = nat_le (d.dist u v) d.eps

-- Whether the record b is near a vector.
abbrev pub is_near_vector : Density → Entries → List ℕ → ℕ → Bool
is_near_vector d rows v b = within d (Some v) (value_at nat_cmp b rows)

-- The neighbourhood of a vector: the numbers near it, rising.
abbrev pub near_vector : Density → Entries → List ℕ → List ℕ
near_vector d rows v = filter (is_near_vector d rows v) (numbers_of rows)

-- Whether the record b is near the record a.
abbrev pub is_near : Density → Entries → ℕ → ℕ → Bool
is_near d rows a b = within d (value_at nat_cmp a rows) (value_at nat_cmp b rows)

-- The neighbourhood of a record: the numbers near it, rising, itself among them.
abbrev pub near_of : Density → Entries → ℕ → List ℕ
near_of d rows a = filter (is_near d rows a) (numbers_of rows)

-- The size of a record is the number of members of its neighbourhood.
abbrev pub size_of : Density → Entries → ℕ → ℕ
size_of d rows a = length (near_of d rows a)

-- A record is core where its neighbourhood has at least minpts members.
abbrev pub is_core : Density → Entries → ℕ → Bool
is_core d rows a = is_some (value_at nat_cmp a rows) && nat_le d.minpts (size_of d rows a)

-- The cores, rising.
abbrev pub cores_of : Density → Entries → List ℕ
cores_of d rows = filter (is_core d rows) (numbers_of rows)

-- The label of a core: the least core that is joined with it.
abbrev pub cluster_of : Density → Entries → ℕ → ℕ
cluster_of d rows a = label_of (is_core d rows) (is_near d rows) (cores_of d rows) a

-- The anchor of a record that is no core: the least core near it, or none. A core has none.
abbrev pub anchor_of : Density → Entries → ℕ → Option ℕ
anchor_of d rows a = if is_core d rows a then None else find (is_near d rows a) (cores_of d rows)

-- The mark of a record that is no core: a border with the label of its anchor, or noise without one.
abbrev pub outer_mark : Density → Entries → Option ℕ → Mark
outer_mark d rows None = Noise
outer_mark d rows (Some b) = Border (cluster_of d rows b)

-- The mark of a record: a core with its own label, or what its anchor makes it.
abbrev pub mark_of : Density → Entries → ℕ → Mark
mark_of d rows a =
    if is_core d rows a then Core (cluster_of d rows a) else outer_mark d rows (anchor_of d rows a)

-- Each number with its mark, rising.
abbrev pub marks_of : Density → Entries → List (ℕ × Mark)
marks_of d rows = map (λ a. (a, mark_of d rows a)) (numbers_of rows)
