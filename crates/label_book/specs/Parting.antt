-- How a cluster parts: some members leave, some become clusters of their own, the rest stays one.
use Rattle.std.specs.Prelude.{◌≡◌, ℕ, ◌≤◌, List, None, Some, slice_get, IsSomeAnd}
use Rattle.std.specs.FinMap as map
use Rattle.label_book.specs.Labels.{Labels, IsMember, EachOnce, IsLeastOf}

-- The core stands in one of the groups.
abbrev pub IsGrouped : List (List ℕ) → ℕ → Type 0
IsGrouped groups core = (j : ℕ) × ((g : List ℕ) × ((slice_get groups j ≡ Some g) × IsMember g core))

-- No group names a core twice.
abbrev pub AreEachOnce : List (List ℕ) → Type 0
AreEachOnce groups = (j : ℕ) (g : List ℕ) → slice_get groups j ≡ Some g → EachOnce g

-- No core stands in two groups.
abbrev pub AreApart : List (List ℕ) → Type 0
AreApart groups = (core : ℕ) (a b : IsGrouped groups core) → a.0 ≡ b.0

-- What `part` needs: a label, and disjoint lists of its members, which name no core twice.
pub record IsParting (old : Labels) (label : ℕ) (lost : List ℕ) (groups : List (List ℕ)) : Type 0 where
  pub label_is : map.get old label ≡ Some label
  pub lost_in : (core : ℕ) → IsMember lost core → map.get old core ≡ Some label
  pub lost_once : EachOnce lost
  pub grouped_in : (core : ℕ) → IsGrouped groups core → map.get old core ≡ Some label
  pub group_once : AreEachOnce groups
  pub apart : (core : ℕ) → IsMember lost core → IsGrouped groups core → ⊥
  pub one_group : AreApart groups

-- The core is a member of the cluster in no list.
pub record IsRest (old : Labels) (label : ℕ) (lost : List ℕ) (groups : List (List ℕ)) (core : ℕ) : Type 0 where
  pub member : map.get old core ≡ Some label
  pub kept : IsMember lost core → ⊥
  pub alone : IsGrouped groups core → ⊥

-- The least of these members in no list.
abbrev pub IsLeastRest : Labels → ℕ → List ℕ → List (List ℕ) → ℕ → Type 0
IsLeastRest old label lost groups l =
    IsRest old label lost groups l × ((core : ℕ) → IsRest old label lost groups core → l ≤ core)

-- The labels after the lost ones left, each group became a cluster, and the rest one more.
pub record IsParted (old : Labels) (label : ℕ) (lost : List ℕ) (groups : List (List ℕ)) (new : Labels) : Type 0 where
  pub gone : (core : ℕ) → IsMember lost core → map.get new core ≡ None
  pub grouped : (core : ℕ) (of : IsGrouped groups core) → IsSomeAnd (map.get new core) (λ l. IsLeastOf l of.1.0)
  pub rest : (core : ℕ) → IsRest old label lost groups core → IsSomeAnd (map.get new core) (IsLeastRest old label lost groups)
  pub others : (core : ℕ) → (map.get old core ≡ Some label → ⊥) → map.get new core ≡ map.get old core

-- The core was a member of the cluster and has this label now.
pub record HasNow (old : Labels) (label : ℕ) (new : Labels) (l core : ℕ) : Type 0 where
  pub was : map.get old core ≡ Some label
  pub is : map.get new core ≡ Some l

-- The list is exactly the labels that former members of the cluster have now.
pub record AreNewLabels (old : Labels) (label : ℕ) (new : Labels) (labels : List ℕ) : Type 0 where
  pub each : (l : ℕ) → IsMember labels l → (core : ℕ) × HasNow old label new l core
  pub all : (l core : ℕ) → HasNow old label new l core → IsMember labels l
