-- Roots that merge where cores are near each other, and the labels that they give. No public contract cites these.
use Rattle.std.specs.Prelude.{◌≡◌, ℕ, ◌<◌, ◌≤◌, ◌==◌, Bool, List, length, map, max, min, slice_index, IsTrue, if◌then◌else◌}
use Rattle.std.specs.Ordering.{nat_cmp}
use Rattle.std.specs.FinMap.Entries.{find as value_at}
use Rattle.std.specs.Option.{is_some}
use Rattle.plain_dbscan.specs.Chains.{Joined, IsLabel}
use Rattle.plain_dbscan.specs.Marks.{Density, Entries, numbers_of, is_near}

-- a label, with one other in the place of a certain one
abbrev pub relabelled : ℕ → ℕ → ℕ → ℕ
relabelled from to l = if l == from then to else l

-- the labels, with the lesser of two in the place of the greater
abbrev pub merged : ℕ → ℕ → List ℕ → List ℕ
merged a b labels = map (relabelled (max a b) (min a b)) labels

-- whether a number is among these records, which are all cores
abbrev pub is_there : Entries → ℕ → Bool
is_there cores a = is_some (value_at nat_cmp a cores)

-- the core at each place is joined with that at its root, which is not above it
pub record AreLowered (d : Density) (cores : Entries) (roots : List ℕ) : Type 0 where
  pub lengths : length roots ≡ length cores
  pub joined : (i : ℕ) → i < length cores → Joined (is_there cores) (is_near d cores) (slice_index (numbers_of cores) i) (slice_index (numbers_of cores) (slice_index roots i))
  pub lower : (i : ℕ) → i < length cores → slice_index roots i ≤ i

-- place i has the root of each near one before place j
abbrev pub AgreesBefore : Density → Entries → List ℕ → ℕ → ℕ → Type 0
AgreesBefore d cores roots i j =
    (k : ℕ) → k < j → IsTrue (is_near d cores (slice_index (numbers_of cores) i) (slice_index (numbers_of cores) k)) → slice_index roots i ≡ slice_index roots k

-- near ones of the first n cores have one root
abbrev pub AgreeBelow : Density → Entries → List ℕ → ℕ → Type 0
AgreeBelow d cores roots n = (i : ℕ) → i < n → AgreesBefore d cores roots i i

-- each label is that of the core at its place, where these records are all cores
pub record AreLabels (d : Density) (cores : Entries) (labels : List ℕ) : Type 0 where
  pub lengths : length labels ≡ length cores
  pub each : (i : ℕ) → i < length cores → IsLabel (is_there cores) (is_near d cores) (slice_index (numbers_of cores) i) (slice_index labels i)
