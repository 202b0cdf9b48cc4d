-- How many distances a range query computes.
use Rattle.std.specs.Prelude.{ℕ, zero, suc, ◌+◌, Bool, false, if◌then◌else◌, nat_lt, nat_le, List, sum_by, Option, Some, None}
use Rattle.vec_record.specs.Distance.{apart}
use Rattle.mtree_node.specs.declared.node.LeafEntry.{LeafEntry}
use Rattle.mtree_node.specs.declared.node.InnerEntry.{out-InnerEntry}
use Rattle.mtree_node.specs.declared.node.Node.{Node, out-Node}
use Rattle.mtree_node.specs.declared.node.Node.TheOpen.{Node-F}
use Rattle.mtree_node.specs.Layer.{Layer, EntryLayer}

-- the first pruning test, in a node whose object is at this distance of the centre: an entry with this parent distance can't be within reach. In the root it skips nothing
abbrev pub is_skipped : Option ℕ → ℕ → ℕ → Bool
is_skipped None reach parent = false
is_skipped (Some to_object) reach parent = nat_lt reach (apart to_object parent)

module _ (dist : List ℕ → List ℕ → ℕ) (centre : List ℕ) (radius : ℕ) where
  -- one distance for a leaf entry that isn't skipped
  abbrev pub leaf_cost : Option ℕ → LeafEntry → ℕ
  leaf_cost to_object e = if is_skipped to_object radius e.parent then 0 else 1

  -- one distance for an inner entry that isn't skipped, and the cost of its child where its object is within the radius and the covering radius: the second pruning test
  abbrev pub entry_cost : (Option ℕ → Node → ℕ) → Option ℕ → EntryLayer → ℕ
  entry_cost below to_object e =
      if is_skipped to_object (radius + e.radius) e.parent then 0
      else (1 + (if nat_le (dist centre e.object) (radius + e.radius) then below (Some (dist centre e.object)) e.child else 0))

  abbrev pub cost_in : (Option ℕ → Node → ℕ) → Option ℕ → Layer → ℕ
  cost_in below to_object (Node-F.Leaf tag es) = sum_by (leaf_cost to_object) es
  cost_in below to_object (Node-F.Inner tag es) = sum_by (λ e. entry_cost below to_object (out-InnerEntry e)) es

  -- the distances that the query computes in a node and below it. The node's object is at this distance of the centre; for the root there is none
  abbrev pub cost : ℕ → Option ℕ → Node → ℕ
  cost zero to_object n = 0
  cost (suc h) to_object n = cost_in (cost h) to_object (out-Node n)
