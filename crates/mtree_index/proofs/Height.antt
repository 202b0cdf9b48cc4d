-- A tree of few records is low: each node but the root has 7 entries or more.
use Rattle.std.proofs.Common.{ℕ, zero, suc, ◌*◌, ◌≤◌, ◌↔◌, List, [], ◌∷◌, length, Option, Some, None, ◌≡◌, refl, arith, length-append}
use Rattle.std.proofs.Math.Nat.{mul-le-mul_right, add-mul}
use Rattle.std.specs.List.{AllByRecursion, flat_map}
use Rattle.mtree_node.specs.declared.node.LeafEntry.{LeafEntry}
use Rattle.mtree_node.specs.declared.node.InnerEntry.{InnerEntry, out-InnerEntry}
use Rattle.mtree_node.specs.declared.node.Node.{Node, out-Node}
use Rattle.mtree_node.specs.declared.node.Node.TheOpen.{Node-F}
use Rattle.mtree_node.specs.Layer.{Layer}
use Rattle.mtree_node.specs.Tree.{leaves, leaves_in, IsNode, IsNodeIn}
use Rattle.mtree_index.specs.Tree.{IsRoot}
use Rattle.mtree_index.proofs.Places.{all_weaker}

-- how many leaf entries are below a node of this height at least
abbrev few : ℕ → ℕ
few zero = 0
few (suc zero) = 7
few (suc (suc h)) = 7 * few (suc h)

many_below : {A : Type 0} (L : A → List LeafEntry) (low : ℕ) (es : List A) → AllByRecursion (λ e. low ≤ length (L e)) es → length es * low ≤ length (flat_map L es)
many_below L low [] a = omega arith
many_below L low (e ∷ es) a = omega (arith, a.0, many_below L low es a.1, length-append (L e) (flat_map L es), add-mul 1 (length es) low)

at_least : (n low k : ℕ) → low ≤ n → low * k ≤ n * k
at_least n low k l = mul-le-mul_right k l

module _ (dist : List ℕ → List ℕ → ℕ) (w greatest : ℕ) where
  enough_in : (h : ℕ) → ((object : List ℕ) (n : Node) → IsNode dist w greatest h (Some object) n → few h ≤ length (leaves h n))
      → (object : List ℕ) (n : Layer) → IsNodeIn dist w greatest h (λ o m. IsNode dist w greatest h (Some o) m) (leaves h) (Some object) n → few (suc h) ≤ length (leaves_in (leaves h) n)
  enough_in zero ih object (Node-F.Leaf tag es) s = s.1.0
  enough_in (suc h) ih object (Node-F.Leaf tag es) s = absurd (omega (arith, s.0))
  enough_in zero ih object (Node-F.Inner tag es) s = absurd (omega (arith, s.0))
  enough_in (suc h) ih object (Node-F.Inner tag es) s =
      let all = all_weaker _ (λ (e : InnerEntry). few (suc h) ≤ length (leaves (suc h) (out-InnerEntry e).child)) es (λ e k. ih (out-InnerEntry e).object (out-InnerEntry e).child k.child) s.2 in
      omega (arith, many_below (λ (e : InnerEntry). leaves (suc h) (out-InnerEntry e).child) (few (suc h)) es all, at_least (length es) 7 (few (suc h)) s.1.0)

  enough : (h : ℕ) (object : List ℕ) (n : Node) → IsNode dist w greatest h (Some object) n → few h ≤ length (leaves h n)
  enough zero object n s = absurd s
  enough (suc h) object n s = enough_in h (enough h) object (out-Node n) s

  root_in : (h : ℕ) (n : Layer) → IsNodeIn dist w greatest (suc h) (λ o m. IsNode dist w greatest (suc h) (Some o) m) (leaves (suc h)) None n → 2 * few (suc h) ≤ length (leaves_in (leaves (suc h)) n)
  root_in h (Node-F.Leaf tag es) s = absurd (omega (arith, s.0))
  root_in h (Node-F.Inner tag es) s =
      let all = all_weaker _ (λ (e : InnerEntry). few (suc h) ≤ length (leaves (suc h) (out-InnerEntry e).child)) es (λ e k. enough (suc h) (out-InnerEntry e).object (out-InnerEntry e).child k.child) s.2 in
      omega (arith, many_below (λ (e : InnerEntry). leaves (suc h) (out-InnerEntry e).child) (few (suc h)) es all, at_least (length es) 2 (few (suc h)) s.1.0)

  large : (h : ℕ) → 117649 ≤ few (suc (suc (suc (suc (suc (suc h))))))
  large zero = omega arith
  large (suc h) = omega (arith, large h)

  -- a tree of at most 200,000 records has at most 6 levels
  pub low_tree : (h : ℕ) (n : Node) → IsNode dist w greatest h None n → length (leaves h n) ≤ 200000 → h ≤ 6
  low_tree zero n s l = absurd s
  low_tree (suc zero) n s l = omega arith
  low_tree (suc (suc zero)) n s l = omega arith
  low_tree (suc (suc (suc zero))) n s l = omega arith
  low_tree (suc (suc (suc (suc zero)))) n s l = omega arith
  low_tree (suc (suc (suc (suc (suc zero))))) n s l = omega arith
  low_tree (suc (suc (suc (suc (suc (suc zero)))))) n s l = omega arith
  low_tree (suc (suc (suc (suc (suc (suc (suc h))))))) n s l = absurd (omega (arith, l, root_in (suc (suc (suc (suc (suc h))))) (out-Node n) s, large h))

-- exactly the empty tree has no level
pub empty_is_low : (dist : List ℕ → List ℕ → ℕ) (w greatest h : ℕ) (root : Option Node) → IsRoot dist w greatest h root → (h ≡ 0) ↔ (root ≡ None)
empty_is_low dist w greatest h None r = (λ e. refl, λ e. r)
empty_is_low dist w greatest zero (Some n) r = (λ e. absurd r.node, λ e. absurd r.node)
empty_is_low dist w greatest (suc h) (Some n) r = (λ e. absurd (omega (arith, e)), λ e. absurd (let wrong : Some n ≡ None = e in cc))
