-- Nodes and entries that were opened.
use Rattle.std.proofs.Common.{◌≡◌, ℕ, zero, suc, ◌-◌, List, ap, ◌∙◌, subst, arith, rules}
use Rattle.mtree_node.specs.declared.node.LeafEntry.{LeafEntry}
use Rattle.mtree_node.specs.declared.node.InnerEntry.{InnerEntry, out-InnerEntry, roll-InnerEntry}
use Rattle.mtree_node.specs.declared.node.Node.{Node, out-Node}
use Rattle.mtree_node.specs.declared.node.Node.TheOpen.{Node-F}
use Rattle.mtree_node.specs.declared.node.Node.TheVariants as node
use Rattle.mtree_node.specs.declared.node.Node.TheViews.{the_lemmas}
use Rattle.mtree_node.specs.Layer.{EntryLayer}
use Rattle.mtree_node.specs.Tree.{IsLeveled, IsLeveledIn}

pub out_inner : (tag : ℕ) (es : List InnerEntry) → out-Node (node.Inner tag es) ≡ Node-F.Inner tag es
out_inner tag es = search (rules, the_lemmas)

pub out_leaf : (tag : ℕ) (es : List LeafEntry) → out-Node (node.Leaf tag es) ≡ Node-F.Leaf tag es
out_leaf tag es = search (rules, the_lemmas)

pub out_roll : (e : EntryLayer) → out-InnerEntry (roll-InnerEntry e) ≡ e
out_roll e = search (rules, the_lemmas)

pub opened_inner : (n : Node) (tag : ℕ) (es : List InnerEntry) → n ≡ node.Inner tag es → out-Node n ≡ Node-F.Inner tag es
opened_inner n tag es is = ap out-Node is ∙ out_inner tag es

pub opened_leaf : (n : Node) (tag : ℕ) (es : List LeafEntry) → n ≡ node.Leaf tag es → out-Node n ≡ Node-F.Leaf tag es
opened_leaf n tag es is = ap out-Node is ∙ out_leaf tag es

pub some_level : (h : ℕ) (n : Node) → IsLeveled h n → h ≡ suc (h - 1)
some_level zero n s = absurd s
some_level (suc h) n s = omega arith

pub leveled_inner : (n : Node) (tag : ℕ) (es : List InnerEntry) → n ≡ node.Inner tag es → (h k : ℕ) → h ≡ suc k → IsLeveled h n → IsLeveledIn k (IsLeveled k) (Node-F.Inner tag es)
leveled_inner n tag es is h k e s = subst (IsLeveledIn k (IsLeveled k)) (opened_inner n tag es is) (subst (λ m. IsLeveled m n) e s)
