-- Trees that are built from shapes, and trees that get other tags.
use Rattle.std.proofs.Common.{◌≡◌, ℕ, ◌≤◌, List, length, map, Option, Some, None, refl, sym, ap, subst}
use Rattle.std.specs.Option.{option_map}
use Rattle.std.specs.Prelude.{IfSome}
use Rattle.std.specs.FinMap.{from_entries, empty_of_len}
use Rattle.std.specs.Ordering.{nat_cmp}
use Rattle.vec_record.specs.Held.{Rows}
use Rattle.mtree_node.specs.declared.node.Node.{Node}
use Rattle.mtree_node.specs.declared.shape.Shape.{Shape}
use Rattle.mtree_node.specs.Tree.{record_of, IsTree, IsLeveled}
use Rattle.mtree_node.specs.Preorder.{size, retagged}
use Rattle.mtree_node.specs.Walk.{IsTreeOf}
use Rattle.mtree_node.proofs.Tags.{retagged_leaves, retagged_cost, tags_are_free, node_is_leveled, one_level}
use Rattle.mtree_index.specs.Plain.{PlainTree}
use Rattle.mtree_index.specs.Tree.{records_of, root_cost, IsRoot}

-- a tree of records holds these records
pub tree_holds : (dist : List ℕ → List ℕ → ℕ) (width greatest h : ℕ) (shapes : List Shape) (rows : Rows) (root : Option Node) → IsTreeOf dist width greatest h shapes rows root → records_of h root ≡ rows
tree_holds dist width greatest h shapes rows None t = sym (empty_of_len rows t.2)
tree_holds dist width greatest h shapes rows (Some n) t = t.2

module _ (tags : List ℕ) (h : ℕ) where
  abbrev retagged_root : Option Node → Option Node
  retagged_root root = option_map (retagged tags h) root

  pub same_records : (root : Option Node) → records_of h (retagged_root root) ≡ records_of h root
  same_records None = refl
  same_records (Some n) = ap (λ ls. from_entries {R = nat_cmp} (map record_of ls)) (retagged_leaves tags h 0 n)

  module _ (dist : List ℕ → List ℕ → ℕ) where
    pub same_cost : (centre : List ℕ) (radius : ℕ) (root : Option Node) → root_cost dist h (retagged_root root) centre radius ≡ root_cost dist h root centre radius
    same_cost centre radius None = refl
    same_cost centre radius (Some n) = retagged_cost dist centre radius h None 0 tags n

    pub same_root : (w greatest : ℕ) (root : Option Node) → IsRoot dist w greatest h root → IsRoot dist w greatest h (retagged_root root)
    same_root w greatest None r = r
    same_root w greatest (Some n) r = tags_are_free dist w greatest h n tags r

module _ (dist : List ℕ → List ℕ → ℕ) (w greatest h : ℕ) where
  -- the leaves of a root are on the level of its height
  pub root_level : (root : Option Node) → IsRoot dist w greatest h root → IfSome root (IsLeveled h)
  root_level None r = tt
  root_level (Some n) r = node_is_leveled dist w greatest h None n r.node

  pub root_levels : h ≤ 6 → (root : Option Node) → IsRoot dist w greatest h root → IfSome root (λ n. (levels : ℕ) × (levels ≤ 6) × IsLeveled levels n)
  root_levels low None r = tt
  root_levels low (Some n) r = (h, low, node_is_leveled dist w greatest h None n r.node)

  -- as many tags as nodes, whatever level is asked for
  pub root_tags : (tags : List ℕ) (root : Option Node) → IsRoot dist w greatest h root → IfSome root (λ n. length tags ≡ size h n) → IfSome root (λ n. (levels : ℕ) → IsLeveled levels n → length tags ≡ size levels n)
  root_tags tags None r is = tt
  root_tags tags (Some n) r is = λ levels l. subst (λ k. length tags ≡ size k n) (one_level h levels n (node_is_leveled dist w greatest h None n r.node) l) is

-- a tree of at most 6 levels is on one of them
pub tree_level : (dist : List ℕ → List ℕ → ℕ) (w greatest h : ℕ) (n : Node) → h ≤ 6 → IsTree dist w greatest h n → (levels : ℕ) × (levels ≤ 6) × IsLeveled levels n
tree_level dist w greatest h n low t = (h, low, node_is_leveled dist w greatest h None n t.node)

-- trees with the same parts are the same
pub same_tree : (t x : PlainTree) → t.width ≡ x.width → t.height ≡ x.height → t.root ≡ x.root → t ≡ x
same_tree t x a b c i = record { width = a i; height = b i; root = c i }
