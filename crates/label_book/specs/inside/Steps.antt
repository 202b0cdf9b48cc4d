-- How each step of the code changes places, clusters and labels.
use Rattle.std.specs.Prelude.{◌≡◌, ◌≢◌, ℕ, ◌≤◌, ◌<◌, ◌+◌, ◌⊎◌, ◌++◌, List, [], ◌∷◌, length, None, Some, slice_get, IsSome, IsSomeAnd, cond, nat_eq, min}
use Rattle.std.specs.Option.{option_map}
use Rattle.std.specs.declared.option.Option.{Option}
use Rattle.std.specs.FinMap as map
use Rattle.slab.specs.Slab as slab
use Rattle.label_book.specs.declared.cluster.Place.{Place}
use Rattle.label_book.specs.declared.cluster.Cluster.{Cluster}
use Rattle.label_book.specs.Labels.{Labels, IsMember, EachOnce, IsLeastOf}
use Rattle.label_book.specs.Parting.{IsGrouped, IsRest, IsLeastRest}
use Rattle.label_book.specs.inside.Kept.{Places, Clusters, ArePlaced}

-- A cluster with one more core at the end of its list.
abbrev pub with_core : Cluster → ℕ → Cluster
with_core c core = record { label = min c.label core; members = c.members ++ core ∷ [] }

-- A cluster with the members of another at the end of its list.
abbrev pub with_members : Cluster → Cluster → Cluster
with_members c d = record { label = min c.label d.label; members = c.members ++ d.members }

-- The other label in place of this one.
abbrev pub relabel : ℕ → ℕ → ℕ → ℕ
relabel label to l = cond (nat_eq l label) to l

-- The labels with one more core in the cluster of this label.
abbrev pub IsWith : Labels → ℕ → ℕ → Labels → Type 0
IsWith old label core new = (q : ℕ) → map.get new q ≡ cond (nat_eq q core) (Some (min label core)) (option_map (relabel label (min label core)) (map.get old q))

-- The labels after the clusters of two labels became one.
pub record IsMerged (old : Labels) (a b : ℕ) (new : Labels) : Type 0 where
  pub first : (q : ℕ) → map.get old q ≡ Some a → map.get new q ≡ Some (min a b)
  pub second : (q : ℕ) → map.get old q ≡ Some b → map.get new q ≡ Some (min a b)
  pub others : (q : ℕ) → (map.get old q ≡ Some a → ⊥) → (map.get old q ≡ Some b → ⊥) → map.get new q ≡ map.get old q

-- The labels after the cluster of a core became one with that of a label, and the label that it has then.
pub record IsMergedOf (old : Labels) (into core label : ℕ) (new : Labels) : Type 0 where
  pub other : ℕ
  pub was : map.get old core ≡ Some other
  pub least : label ≡ min into other
  pub merged : IsMerged old into other new

-- The core stands in the list from a place on.
abbrev pub StandsFrom : List ℕ → ℕ → ℕ → Type 0
StandsFrom members from core = (i : ℕ) × ((from ≤ i) × (slice_get members i ≡ Some core))

-- The places after the members from one place up to another were placed in a cluster.
pub record IsRewritten (old : Places) (members : List ℕ) (cluster from to : ℕ) (new : Places) : Type 0 where
  pub written : (q i : ℕ) → from ≤ i → i < to → slice_get members i ≡ Some q → map.get new q ≡ Some (record { cluster = cluster; at = i })
  pub others : (q : ℕ) → ((i : ℕ) → from ≤ i → i < to → slice_get members i ≡ Some q → ⊥) → map.get new q ≡ map.get old q

-- A list after the item at a place was taken out and the last one put there.
pub record IsSwappedOut (xs : List ℕ) (at : ℕ) (ys : List ℕ) : Type 0 where
  pub back : (k q : ℕ) → slice_get ys k ≡ Some q → ((k ≢ at) × ((slice_get xs k ≡ Some q) × (k + 1 < length xs))) ⊎ ((k ≡ at) × ((at + 1 < length xs) × ((i : ℕ) × ((i + 1 ≡ length xs) × (slice_get xs i ≡ Some q)))))
  pub forth : (k q : ℕ) → k ≢ at → slice_get xs k ≡ Some q → (slice_get ys k ≡ Some q) ⊎ ((k + 1 ≡ length xs) × (slice_get ys at ≡ Some q))

-- The key of the cluster in which a core is.
abbrev pub cluster_of : Option Place → Option ℕ
cluster_of o = option_map (λ (p : Place). p.cluster) o

-- A cluster after one of its cores left: its label stays, even where it was the core.
pub record IsShorter (core : ℕ) (c d : Cluster) : Type 0 where
  pub label_is : d.label ≡ c.label
  pub fewer : (q : ℕ) → IsMember d.members q → (q ≢ core) × IsMember c.members q
  pub kept : (q : ℕ) → q ≢ core → IsMember c.members q → IsMember d.members q

-- Places and clusters after a core left the cluster with this key.
pub record IsTakenOut (ps : Places) (cs : Clusters) (core key : ℕ) (qs : Places) (ds : Clusters) : Type 0 where
  pub placed : ArePlaced qs ds
  pub absent : map.get qs core ≡ None
  pub was : cluster_of (map.get ps core) ≡ Some key
  pub places : (q : ℕ) → q ≢ core → cluster_of (map.get qs q) ≡ cluster_of (map.get ps q)
  pub cluster : IsSomeAnd (slab.get cs key) (λ c. IsSomeAnd (slab.get ds key) (IsShorter core c))
  pub others : (g : ℕ) → g ≢ key → slab.get ds g ≡ slab.get cs g

-- The clusters after the label of this one was set to its least member, or it was removed where it has none.
pub record IsSettled (cs : Clusters) (key : ℕ) (label : Option ℕ) (ds : Clusters) : Type 0 where
  pub some : (c : Cluster) (l : ℕ) → slab.get cs key ≡ Some c → label ≡ Some l → IsLeastOf l c.members × (slab.get ds key ≡ Some (record { label = l; members = c.members }))
  pub none : (c : Cluster) → slab.get cs key ≡ Some c → label ≡ None → (c.members ≡ []) × (slab.get ds key ≡ None)
  pub others : (g : ℕ) → g ≢ key → slab.get ds g ≡ slab.get cs g

-- The labels after the core that is a label left: the rest has the new label, the least of them, if there is one.
pub record IsHeadless (old : Labels) (label : ℕ) (to : Option ℕ) (new : Labels) : Type 0 where
  pub gone : map.get new label ≡ None
  pub moved : (q : ℕ) → q ≢ label → map.get old q ≡ Some label → (map.get new q ≡ to) × IsSome to
  pub some : (l : ℕ) → to ≡ Some l → (l ≢ label) × (map.get old l ≡ Some label)
  pub least : (l q : ℕ) → to ≡ Some l → q ≢ label → map.get old q ≡ Some label → l ≤ q
  pub others : (q : ℕ) → (map.get old q ≡ Some label → ⊥) → map.get new q ≡ map.get old q

-- The labels without the cores of a list, but for one of them.
pub record IsWithout (old : Labels) (cores : List ℕ) (kept : ℕ) (new : Labels) : Type 0 where
  pub gone : (q : ℕ) → q ≢ kept → IsMember cores q → map.get new q ≡ None
  pub others : (q : ℕ) → (q ≢ kept → IsMember cores q → ⊥) → map.get new q ≡ map.get old q

-- The labels without the cores of these groups, but for one of them.
pub record IsWithoutGroups (old : Labels) (groups : List (List ℕ)) (kept : ℕ) (new : Labels) : Type 0 where
  pub gone : (q : ℕ) → q ≢ kept → IsGrouped groups q → map.get new q ≡ None
  pub others : (q : ℕ) → (q ≢ kept → IsGrouped groups q → ⊥) → map.get new q ≡ map.get old q

-- The labels after each of these groups became a cluster, and the list of their labels.
pub record AreFounded (old : Labels) (groups : List (List ℕ)) (labels : List ℕ) (new : Labels) : Type 0 where
  pub grouped : (core : ℕ) (of : IsGrouped groups core) → IsSomeAnd (map.get new core) (λ l. IsLeastOf l of.1.0 × IsMember labels l)
  pub others : (core : ℕ) → (IsGrouped groups core → ⊥) → map.get new core ≡ map.get old core
  pub each : (l : ℕ) → IsMember labels l → IsGrouped groups l × (map.get new l ≡ Some l)
  pub once : EachOnce labels

-- The labels after the lost ones and the groups left the cluster: the rest has one label, the least of it.
pub record IsCleared (old : Labels) (label : ℕ) (lost : List ℕ) (groups : List (List ℕ)) (to : Option ℕ) (new : Labels) : Type 0 where
  pub gone : (core : ℕ) → IsMember lost core → map.get new core ≡ None
  pub free : (core : ℕ) → IsGrouped groups core → map.get new core ≡ None
  pub rest : (core : ℕ) → IsRest old label lost groups core → (map.get new core ≡ to) × IsSome to
  pub some : (l : ℕ) → to ≡ Some l → IsLeastRest old label lost groups l
  pub others : (core : ℕ) → (map.get old core ≡ Some label → ⊥) → map.get new core ≡ map.get old core

-- The labels after a group became a cluster, if it isn't empty, and its label was appended to a list.
pub record IsOneFounded (old : Labels) (group labels : List ℕ) (new : Labels) (more : List ℕ) : Type 0 where
  pub member : (core : ℕ) → IsMember group core → IsSomeAnd (map.get new core) (λ l. IsLeastOf l group × IsMember more l)
  pub others : (core : ℕ) → (IsMember group core → ⊥) → map.get new core ≡ map.get old core
  pub each : (l : ℕ) → IsMember more l → IsMember labels l ⊎ (IsMember group l × (map.get new l ≡ Some l))
  pub kept : (l : ℕ) → IsMember labels l → IsMember more l
  pub once : EachOnce labels → ((l : ℕ) → IsMember labels l → IsMember group l → ⊥) → EachOnce more
