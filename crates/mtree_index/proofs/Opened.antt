-- What an insertion makes of a node that was opened.
use Rattle.std.proofs.Common.{◌≡◌, ℕ, zero, suc, ◌-◌, List, [], ◌∷◌, ◌++◌, Option, Some, length, sum_by, ap, subst, ◌∙◌, arith}
use Rattle.mtree_node.specs.declared.node.LeafEntry.{LeafEntry}
use Rattle.std.specs.List.{AllByRecursion, flat_map}
use Rattle.mtree_node.specs.declared.node.InnerEntry.{InnerEntry, out-InnerEntry}
use Rattle.mtree_node.specs.declared.node.Node.{Node}
use Rattle.mtree_node.specs.declared.node.Node.TheVariants as node
use Rattle.mtree_node.specs.Tree.{IsNode, IsNodeIn, IsLeafEntry, leaves}
use Rattle.mtree_node.specs.Cost.{cost, cost_in, entry_cost}
use Rattle.mtree_index.specs.Found.{IsShaped, found, found_in, entry_found}
use Rattle.mtree_node.proofs.Opened.{opened_inner, opened_leaf}
use Rattle.mtree_node.proofs.Sizes.{all_weaker}
use Rattle.mtree_index.specs.Insertion.{inserted, inserted_in, settled_leaf, settled_inner, new_entry, replaced_at, chosen, renewed}

pub has_level : (dist : List ℕ → List ℕ → ℕ) (width greatest h : ℕ) (over : Option (List ℕ)) (n : Node) → IsNode dist width greatest h over n → h ≡ suc (h - 1)
has_level dist width greatest zero over n s = absurd s
has_level dist width greatest (suc h) over n s = omega arith

-- the vectors of a leaf have the width
pub leaf_widths : (dist : List ℕ → List ℕ → ℕ) (width greatest h : ℕ) (over : Option (List ℕ)) (n : Node) (tag : ℕ) (es : List LeafEntry) → IsNode dist width greatest h over n → n ≡ node.Leaf tag es
    → AllByRecursion (λ e. length e.vector ≡ width) es
leaf_widths dist width greatest zero over n tag es s is = absurd s
leaf_widths dist width greatest (suc h) over n tag es s is =
    let below = λ (object : List ℕ) (m : Node). IsNode dist width greatest h (Some object) m in
    let here = subst (IsNodeIn dist width greatest h below (leaves h) over) (opened_leaf n tag es is) s in
    all_weaker (IsLeafEntry dist width greatest over) _ es (λ e k. k.vector.len) here.2

module _ (dist : List ℕ → List ℕ → ℕ) (greatest number : ℕ) (v : List ℕ) (over : Option (List ℕ)) (n : Node) (tag h k : ℕ) (level : h ≡ suc k) where
  pub inserted_leaf : (es : List LeafEntry) → n ≡ node.Leaf tag es → inserted dist greatest number v h over n ≡ settled_leaf dist greatest tag 0 (es ++ new_entry dist greatest number v over ∷ [])
  inserted_leaf es is =
      ap (λ m. inserted dist greatest number v m over n) level ∙ ap (inserted_in dist greatest number v (λ object m. inserted dist greatest number v k (Some object) m) over) (opened_leaf n tag es is)

  pub inserted_inner : (es : List InnerEntry) → n ≡ node.Inner tag es
      → inserted dist greatest number v h over n ≡ settled_inner dist greatest tag 0 (replaced_at (chosen dist v es) (renewed dist v over (λ object m. inserted dist greatest number v k (Some object) m)) es)
  inserted_inner es is =
      ap (λ m. inserted dist greatest number v m over n) level ∙ ap (inserted_in dist greatest number v (λ object m. inserted dist greatest number v k (Some object) m) over) (opened_inner n tag es is)

pub shaped_level : (width h : ℕ) (n : Node) → IsShaped width h n → h ≡ suc (h - 1)
shaped_level width zero n s = absurd s
shaped_level width (suc h) n s = omega arith

module _ (dist : List ℕ → List ℕ → ℕ) (q : List ℕ) (r : ℕ) (to : Option ℕ) (n : Node) (tag : ℕ) (es : List InnerEntry) (is : n ≡ node.Inner tag es) (h k : ℕ) (level : h ≡ suc k) where
  pub found_inner : found dist q r h to n ≡ flat_map (λ e. entry_found dist q r (found dist q r k) to (out-InnerEntry e)) es
  found_inner = ap (λ m. found dist q r m to n) level ∙ ap (found_in dist q r (found dist q r k) to) (opened_inner n tag es is)

  pub cost_inner : cost dist q r h to n ≡ sum_by (λ e. entry_cost dist q r (cost dist q r k) to (out-InnerEntry e)) es
  cost_inner = ap (λ m. cost dist q r m to n) level ∙ ap (cost_in dist q r (cost dist q r k) to) (opened_inner n tag es is)
