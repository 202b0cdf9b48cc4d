-- The entries that stand for a node have objects of the width.
use Rattle.std.proofs.Common.{◌≡◌, ℕ, ◌≤◌, List, length, Option, Some, None, arith}
use Rattle.std.specs.List.{AllByRecursion}
use Rattle.mtree_node.specs.declared.node.InnerEntry.{InnerEntry, out-InnerEntry}
use Rattle.mtree_index.specs.declared.settle.Pair.{Pair}
use Rattle.mtree_index.specs.Insertion.{HasWidth, entries_of}

pub widths_of : (dist : List ℕ → List ℕ → ℕ) (width : ℕ) (over : Option (List ℕ)) (pair : Option Pair) (e : InnerEntry) → HasWidth width pair → length (out-InnerEntry e).object ≡ width
    → AllByRecursion (λ x. length (out-InnerEntry x).object ≡ width) (entries_of dist over pair e)
widths_of dist width over None e p w = (w, tt)
widths_of dist width over (Some pair) e p w = (p.0, (p.1, tt))

pub at_most_two : (dist : List ℕ → List ℕ → ℕ) (over : Option (List ℕ)) (pair : Option Pair) (e : InnerEntry) → length (entries_of dist over pair e) ≤ 2
at_most_two dist over None e = omega arith
at_most_two dist over (Some pair) e = omega arith
