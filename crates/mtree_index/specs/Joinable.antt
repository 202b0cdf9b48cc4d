-- Which neighbours can be joined, and what a search gives.
use Rattle.std.specs.Prelude.{◌≡◌, ℕ, ◌+◌, ◌-◌, ◌≤◌, Bool, true, false, List, length, Option, Some, None}
use Rattle.std.specs.List.{AllByRecursion, slice_get}
use Rattle.mtree_node.specs.declared.node.InnerEntry.{InnerEntry, out-InnerEntry}
use Rattle.mtree_node.specs.declared.node.Node.{out-Node}
use Rattle.mtree_node.specs.declared.node.Node.TheOpen.{Node-F}
use Rattle.mtree_node.specs.Layer.{Layer}
use Rattle.mtree_index.specs.Removal.{is_short_at}

-- what a call that may change a value gives: the value then, or none where it changed nothing
abbrev pub given : {A : Type 0} → Bool → A → Option A
given true x = Some x
given false x = None

-- the same for a call that gives the place of the change in a list
abbrev pub given_at : {A : Type 0} → Option ℕ → List A → Option (ℕ × List A)
given_at None xs = None
given_at (Some at) xs = Some (at, xs)

abbrev pub AreJoinable : ℕ → Layer → Layer → Type 0
AreJoinable width (Node-F.Leaf tag es) (Node-F.Leaf right fs) =
    (length es + length fs ≤ 36) × AllByRecursion (λ e. length e.vector ≡ width) es × AllByRecursion (λ e. length e.vector ≡ width) fs
AreJoinable width (Node-F.Inner tag es) (Node-F.Inner right fs) =
    (length es + length fs ≤ 36) × AllByRecursion (λ e. length (out-InnerEntry e).object ≡ width) es × AllByRecursion (λ e. length (out-InnerEntry e).object ≡ width) fs
AreJoinable width (Node-F.Leaf tag es) (Node-F.Inner right fs) = ⊥
AreJoinable width (Node-F.Inner tag es) (Node-F.Leaf right fs) = ⊥

-- the nodes of two entries are of one kind, have at most 36 entries together, and objects of the width
pub record IsJoinable (width : ℕ) (left right : InnerEntry) : Type 0 where
  pub object : length (out-InnerEntry left).object ≡ width
  pub nodes : AreJoinable width (out-Node (out-InnerEntry left).child) (out-Node (out-InnerEntry right).child)

-- where the entry at a place is short, it and its neighbour can be joined: the one before it, or the next one where it is the first
abbrev pub IsJoinableAt : ℕ → ℕ → List InnerEntry → Type 0
IsJoinableAt width place es = is_short_at place es ≡ true → (left right : InnerEntry) → slice_get es (place - 1) ≡ Some left → slice_get es (place - 1 + 1) ≡ Some right → IsJoinable width left right
