-- What a label book keeps, and the labels that callers see of it.
use Rattle.std.specs.Prelude.{◌≡◌, ℕ, List, map as list_map, None, Some, slice_get, IsSomeAnd}
use Rattle.std.specs.declared.option.Option.{Option}
use Rattle.std.specs.Ordering.{nat_cmp}
use Rattle.std.specs.FinMap as map
use Rattle.slab.specs.Slab as slab
use Rattle.label_book.specs.declared.cluster.Place.{Place}
use Rattle.label_book.specs.declared.cluster.Cluster.{Cluster}
use Rattle.label_book.specs.Labels.{Labels, IsLeastOf}

-- The place of each core.
abbrev pub Places : Type 0
Places = map.FinMap nat_cmp Place

-- The clusters under their keys.
abbrev pub Clusters : Type 0
Clusters = slab.Slab Cluster

-- The label of a cluster, or 0 where there is no such cluster.
abbrev pub label_or : Option Cluster → ℕ
label_or None = 0
label_or (Some c) = c.label

-- The label of the cluster in which a place is.
abbrev pub label_at : Clusters → Place → ℕ
label_at clusters p = label_or (slab.get clusters p.cluster)

-- Each core of these with its label.
abbrev pub labelled : Clusters → List (ℕ × Place) → List (ℕ × ℕ)
labelled clusters es = list_map (λ e. (e.0, label_at clusters e.1)) es

-- Each core has the label of its cluster.
abbrev pub labels_of : Places → Clusters → Labels
labels_of places clusters = map.from_entries (labelled clusters (map.entries places))

-- Each placed core stands at its place, and each listed core is placed there.
pub record ArePlaced (places : Places) (clusters : Clusters) : Type 0 where
  pub placed : (core : ℕ) (p : Place) → map.get places core ≡ Some p → IsSomeAnd (slab.get clusters p.cluster) (λ c. slice_get c.members p.at ≡ Some core)
  pub listed : (h : ℕ) (c : Cluster) → slab.get clusters h ≡ Some c → (i core : ℕ) → slice_get c.members i ≡ Some core → map.get places core ≡ Some (record { cluster = h; at = i })

-- Each placed core stands at its place, each listed core is placed there, and each label is the least of its list.
pub record Kept (places : Places) (clusters : Clusters) : Type 0 where
  pub placed : (core : ℕ) (p : Place) → map.get places core ≡ Some p → IsSomeAnd (slab.get clusters p.cluster) (λ c. slice_get c.members p.at ≡ Some core)
  pub listed : (h : ℕ) (c : Cluster) → slab.get clusters h ≡ Some c → (i core : ℕ) → slice_get c.members i ≡ Some core → map.get places core ≡ Some (record { cluster = h; at = i })
  pub least : (h : ℕ) (c : Cluster) → slab.get clusters h ≡ Some c → IsLeastOf c.label c.members
