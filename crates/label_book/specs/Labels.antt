-- What a label book is, and what founding and joining clusters change.
use Rattle.std.specs.Prelude.{◌≡◌, ◌≢◌, ℕ, ◌≤◌, ◌⊎◌, List, count_by, nat_eq, None, Some, slice_get}
use Rattle.std.specs.Ordering.{nat_cmp}
use Rattle.std.specs.FinMap as map

-- The label of each core.
abbrev pub Labels : Type 0
Labels = map.FinMap nat_cmp ℕ

-- A label is the least of its members, so it is a member that has itself as label.
abbrev pub HasLeast : Labels → Type 0
HasLeast m = (core label : ℕ) → map.get m core ≡ Some label → (label ≤ core) × (map.get m label ≡ Some label)

-- The core stands in the list.
abbrev pub IsMember : List ℕ → ℕ → Type 0
IsMember members core = (i : ℕ) × (slice_get members i ≡ Some core)

-- No core stands twice in the list.
abbrev pub EachOnce : List ℕ → Type 0
EachOnce members = (i j core : ℕ) → slice_get members i ≡ Some core → slice_get members j ≡ Some core → i ≡ j

-- The list is exactly the cores that have this label, each once.
pub record AreMembers (m : Labels) (label : ℕ) (members : List ℕ) : Type 0 where
  pub exact : (core : ℕ) → (IsMember members core → map.get m core ≡ Some label) × (map.get m core ≡ Some label → IsMember members core)
  pub once : EachOnce members

-- No core has this label.
abbrev pub HasNoMember : Labels → ℕ → Type 0
HasNoMember m label = (core : ℕ) → map.get m core ≢ Some label

-- The label stands in the list, and nothing in the list is less.
abbrev pub IsLeastOf : ℕ → List ℕ → Type 0
IsLeastOf label members = IsMember members label × ((i core : ℕ) → slice_get members i ≡ Some core → label ≤ core)

-- How many labels there are: the cores that are their own label.
abbrev pub cluster_count : Labels → ℕ
cluster_count m = count_by (λ e. nat_eq e.0 e.1) (map.entries m)

-- None of these has a label.
abbrev pub AreFree : Labels → List ℕ → Type 0
AreFree m cores = (core : ℕ) → IsMember cores core → map.get m core ≡ None

-- Each of these is a label.
abbrev pub AreLabels : Labels → List ℕ → Type 0
AreLabels m labels = (label : ℕ) → IsMember labels label → map.get m label ≡ Some label

-- The labels after these cores got this label; all others stay.
abbrev pub IsFounded : Labels → List ℕ → ℕ → Labels → Type 0
IsFounded old cores label new = (q : ℕ) → (IsMember cores q → map.get new q ≡ Some label) × ((IsMember cores q → ⊥) → map.get new q ≡ map.get old q)

-- The core has one of these labels.
abbrev pub HasOneOf : Labels → List ℕ → ℕ → Type 0
HasOneOf m labels core = (label : ℕ) × (IsMember labels label × (map.get m core ≡ Some label))

-- The labels after the clusters of these labels and these cores became the cluster of one label.
pub record IsJoined (old : Labels) (labels cores : List ℕ) (label : ℕ) (new : Labels) : Type 0 where
  pub core : (q : ℕ) → IsMember cores q → map.get new q ≡ Some label
  pub joined : (q : ℕ) → HasOneOf old labels q → map.get new q ≡ Some label
  pub others : (q : ℕ) → (IsMember cores q → ⊥) → (HasOneOf old labels q → ⊥) → map.get new q ≡ map.get old q

-- The label stands in one of two lists, and nothing in them is less.
pub record IsLeastOfBoth (label : ℕ) (xs ys : List ℕ) : Type 0 where
  pub one : IsMember xs label ⊎ IsMember ys label
  pub first : (x : ℕ) → IsMember xs x → label ≤ x
  pub second : (y : ℕ) → IsMember ys y → label ≤ y
