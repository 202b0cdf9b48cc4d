-- Groups of new cores, and what they are among the clusters.
use Rattle.std.specs.Prelude.{◌≡◌, ◌↔◌, ◌⊎◌, ℕ, ◌<◌, false, List, map, length, slice_get, Some, IsSome, IsTrue}
use Rattle.std.specs.FinMap as finite
use Rattle.vec_record.specs.Held.{Held, Rows}
use Rattle.plain_dbscan.specs.Chains.{Joined}
use Rattle.plain_dbscan.specs.Change.{IsWithin}
use Rattle.plain_dbscan.specs.Marks.{Density, density, Entries, is_core, is_near}
use Rattle.count_book.specs.Counted.{Counted, IsCore}
use Rattle.label_book.specs.Labels.{Labels, IsMember, EachOnce, AreFree, HasOneOf, IsLeastOf}
use Rattle.label_book.specs.Parting.{IsGrouped, AreEachOnce, AreApart}
use Rattle.update_seed.specs.declared.groups.InGroup.{InGroup}
use Rattle.update_seed.specs.Books.{AreLabelsDue}

-- The list names records that are core and have no label yet, each once.
pub record AreNew
    (records : Held) (counts : Counted) (labels : Labels) (cores : List ℕ) : Type 0 where
  pub once : EachOnce cores
  pub there : (n : ℕ) → IsMember cores n → IsSome (finite.get records.vectors n)
  pub core : (n : ℕ) → IsMember cores n → IsCore counts n
  pub free : AreFree labels cores

-- The new cores of each group.
abbrev pub cores_in : List InGroup → List (List ℕ)
cores_in groups = map (λ (g : InGroup). g.new_cores) groups

-- The old labels of each group.
abbrev pub labels_in : List InGroup → List (List ℕ)
labels_in groups = map (λ (g : InGroup). g.old_labels) groups

-- The least new core of the one group is below that of the other.
abbrev pub BeginsBefore : InGroup → InGroup → Type 0
BeginsBefore g h = (a b : ℕ) → IsLeastOf a g.new_cores → IsLeastOf b h.new_cores → a < b

-- Each of these new cores is once in exactly one group, and each group has one. The old labels are
-- labels of the book, none twice. The groups come by their least new cores, rising.
pub record AreGathered (labels : Labels) (cores : List ℕ) (groups : List InGroup) : Type 0 where
  pub cores_are : (n : ℕ) → IsMember cores n ↔ IsGrouped (cores_in groups) n
  pub core_once : AreEachOnce (cores_in groups)
  pub core_apart : AreApart (cores_in groups)
  pub some : (j : ℕ) (g : InGroup) → slice_get groups j ≡ Some g → 0 < length g.new_cores
  pub labels_are : (l : ℕ) → IsGrouped (labels_in groups) l → finite.get labels l ≡ Some l
  pub label_once : AreEachOnce (labels_in groups)
  pub label_apart : AreApart (labels_in groups)
  pub rising :
      (i j : ℕ) (g h : InGroup) → i < j → slice_get groups i ≡ Some g → slice_get groups j ≡ Some h
      → BeginsBefore g h

-- The labels are those of records before, whose cores are all cores still and near each other as
-- they were, and the list is exactly the cores that are new.
pub record StoodBefore
    (d : Density) (before after : Rows) (labels : Labels) (cores : List ℕ) : Type 0 where
  pub within :
      IsWithin
      (is_core d (finite.entries before)) (is_near d (finite.entries before))
      (is_core d (finite.entries after)) (is_near d (finite.entries after))
  pub labels_due : AreLabelsDue d (finite.entries before) labels
  pub new :
      (n : ℕ) → IsMember cores n
      ↔ (IsTrue (is_core d (finite.entries after) n)
      × (is_core d (finite.entries before) n ≡ false))

-- The core is one of the group's new cores, or had one of its old labels.
abbrev pub IsInGroup : Labels → InGroup → ℕ → Type 0
IsInGroup labels g a = IsMember g.new_cores a ⊎ HasOneOf labels g.old_labels a

-- The group is a cluster: what its new cores are joined with.
abbrev pub IsCluster : Density → Entries → Labels → InGroup → Type 0
IsCluster d es labels g =
    (n a : ℕ) → IsMember g.new_cores n
    → Joined (is_core d es) (is_near d es) n a ↔ IsInGroup labels g a

-- So each group is. Since each new core is in a group, these are all clusters that have a new core.
abbrev pub AreClusters : Density → Entries → Labels → List InGroup → Type 0
AreClusters d es labels groups =
    (j : ℕ) (g : InGroup) → slice_get groups j ≡ Some g → IsCluster d es labels g

-- Whatever makes a core, where the labels stood before, the groups are clusters.
abbrev pub AreMerged : (List ℕ → List ℕ → ℕ) → ℕ → Held → Labels → List ℕ → List InGroup → Type 0
AreMerged dist eps records labels cores groups =
    (minpts : ℕ) (before : Rows)
    → StoodBefore (density dist eps minpts) before records.vectors labels cores
    → AreClusters (density dist eps minpts) (finite.entries records.vectors) labels groups
