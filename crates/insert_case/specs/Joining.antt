-- Groups of new cores become clusters, and what is told of them.
use Rattle.std.specs.Prelude.{◌≡◌, ◌↔◌, ◌⊎◌, ℕ, ◌<◌, List, ◌++◌, slice_get, Some, IsSome}
use Rattle.std.specs.Prelude.{IsSomeAnd, AllPairs, Contains}
use Rattle.std.specs.FinMap as map
use Rattle.vec_record.specs.declared.event.Event.{Event}
use Rattle.plain_dbscan.specs.Cases.{growth}
use Rattle.label_book.specs.Labels.{Labels, IsMember, AreFree, IsLeastOfBoth}
use Rattle.update_seed.specs.declared.groups.InGroup.{InGroup}
use Rattle.update_seed.specs.Groups.{AreGathered, IsInGroup}

-- The groups are those of cores that have no label yet.
pub record AreJoinable (labels : Labels) (groups : List InGroup) : Type 0 where
  pub cores : List ℕ
  pub gathered : AreGathered labels cores groups
  pub free : AreFree labels cores

-- The label that a group gets: the least of its old labels and new cores.
abbrev pub IsLabelOf : InGroup → ℕ → Type 0
IsLabelOf g l = IsLeastOfBoth l g.old_labels g.new_cores

-- The core is in one of the groups.
abbrev pub IsInSome : Labels → List InGroup → ℕ → Type 0
IsInSome labels groups a =
    (j : ℕ) × ((g : InGroup) × ((slice_get groups j ≡ Some g) × IsInGroup labels g a))

-- The labels after each group became a cluster. What is in no group keeps its label.
pub record AreAllJoined (old : Labels) (groups : List InGroup) (new : Labels) : Type 0 where
  pub label :
      (j a : ℕ) (g : InGroup) → slice_get groups j ≡ Some g → IsInGroup old g a
      → IsSomeAnd (map.get new a) (IsLabelOf g)
  pub others : (a : ℕ) → (IsInSome old groups a → ⊥) → map.get new a ≡ map.get old a

-- Exactly these cores, and what had a label before, have one.
abbrev pub AreLabelled : Labels → List ℕ → Labels → Type 0
AreLabelled old cores new =
    (a : ℕ) → IsSome (map.get new a) ↔ (IsSome (map.get old a) ⊎ IsMember cores a)

-- So it is for all cores that these are the groups of.
abbrev pub HaveLabels : Labels → List InGroup → Labels → Type 0
HaveLabels old groups new =
    (cores : List ℕ) → AreGathered old cores groups → AreLabelled old cores new

-- The one event comes before the other: by new label, and then by old label.
abbrev pub ComesBefore : Event → Event → Type 0
ComesBefore e f = (e.to < f.to) ⊎ ((e.to ≡ f.to) × (e.from < f.from))

-- The event is one of what happened to a group: created where it has no old label, absorbed by the
-- one that it has, or merged from each of several.
pub record IsOfGroup (groups : List InGroup) (e : Event) : Type 0 where
  pub place : ℕ
  pub group : InGroup
  pub at : slice_get groups place ≡ Some group
  pub label : ℕ
  pub is_label : IsLabelOf group label
  pub told : Contains (growth label group.old_labels) e

-- The events are exactly what happened to the groups, rising by new label and then old label.
pub record AreTold (groups : List InGroup) (told : List Event) : Type 0 where
  pub rising : AllPairs ComesBefore told
  pub exact : (e : Event) → Contains told e ↔ IsOfGroup groups e

-- These are told behind all that was told before.
pub record AreToldNow (groups : List InGroup) (before after : List Event) : Type 0 where
  pub told : List Event
  pub are_told : AreTold groups told
  pub behind : after ≡ before ++ told
