-- Entries whose parent distance is set.
use Rattle.std.specs.Prelude.{ℕ}
use Rattle.mtree_node.specs.declared.node.LeafEntry.{LeafEntry}
use Rattle.mtree_node.specs.declared.node.InnerEntry.{InnerEntry, out-InnerEntry, roll-InnerEntry}

-- the leaf entry with this parent distance
abbrev pub leaf_with_parent : ℕ → LeafEntry → LeafEntry
leaf_with_parent distance e = record { number = e.number; vector = e.vector; parent = distance }

-- the inner entry with this parent distance
abbrev pub inner_with_parent : ℕ → InnerEntry → InnerEntry
inner_with_parent distance e =
    roll-InnerEntry (record { object = (out-InnerEntry e).object; radius = (out-InnerEntry e).radius; parent = distance; child = (out-InnerEntry e).child })
