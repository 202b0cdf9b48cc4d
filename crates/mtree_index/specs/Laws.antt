-- How large a tree is, and what its queries cost.
use Rattle.std.specs.Prelude.{◌≡◌, ℕ, zero, suc, ◌+◌, ◌*◌, ◌/◌, ◌≤◌, List, length, sum_by}
use Rattle.std.specs.FinMap as finite
use Rattle.mtree_node.specs.declared.node.InnerEntry.{out-InnerEntry}
use Rattle.mtree_node.specs.declared.node.Node.{Node, out-Node}
use Rattle.mtree_node.specs.declared.node.Node.TheOpen.{Node-F}
use Rattle.mtree_node.specs.Layer.{Layer}
use Rattle.mtree_node.specs.Tree.{leaves, records, IsTree}
use Rattle.mtree_index.specs.Plain.{PlainTree}
use Rattle.mtree_index.specs.Tree.{contents, query_cost, IsLawful}

abbrev pub entries_in : (Node → ℕ) → Layer → ℕ
entries_in below (Node-F.Leaf tag es) = length es
entries_in below (Node-F.Inner tag es) = length es + sum_by (λ e. below (out-InnerEntry e).child) es

-- how many entries a tree has, in all its nodes
abbrev pub entries : ℕ → Node → ℕ
entries zero n = 0
entries (suc h) n = entries_in (entries h) (out-Node n)

abbrev pub leaf_nodes_in : (Node → ℕ) → Layer → ℕ
leaf_nodes_in below (Node-F.Leaf tag es) = 1
leaf_nodes_in below (Node-F.Inner tag es) = sum_by (λ e. below (out-InnerEntry e).child) es

-- how many leaves a tree has
abbrev pub leaf_nodes : ℕ → Node → ℕ
leaf_nodes zero n = 0
leaf_nodes (suc h) n = leaf_nodes_in (leaf_nodes h) (out-Node n)

abbrev pub inner_nodes_in : (Node → ℕ) → Layer → ℕ
inner_nodes_in below (Node-F.Leaf tag es) = 0
inner_nodes_in below (Node-F.Inner tag es) = 1 + sum_by (λ e. below (out-InnerEntry e).child) es

-- how many inner nodes a tree has
abbrev pub inner_nodes : ℕ → Node → ℕ
inner_nodes zero n = 0
inner_nodes (suc h) n = inner_nodes_in (inner_nodes h) (out-Node n)

-- how many records a tree holds: the size of their map
abbrev pub count : ℕ → Node → ℕ
count h n = finite.len (records h n)

-- what holds of each well-formed tree and its height, over every distance
abbrev pub OfEachTree : (ℕ → Node → Type 0) → Type 0
OfEachTree P =
    (dist : List ℕ → List ℕ → ℕ) (width greatest h : ℕ) (n : Node) → IsTree dist width greatest h n → P h n

-- a tree has one leaf entry for each record
abbrev pub HaveAnEntryForEach : Type 0
HaveAnEntryForEach = OfEachTree (λ h n. length (leaves h n) ≡ count h n)

-- a tree has at most two entries for each record
abbrev pub HaveFewEntries : Type 0
HaveFewEntries = OfEachTree (λ h n. entries h n ≤ 2 * count h n)

-- a tree has at most one leaf for 7 records, and one more
abbrev pub HaveFewLeaves : Type 0
HaveFewLeaves = OfEachTree (λ h n. leaf_nodes h n ≤ count h n / 7 + 1)

-- a tree has at most one inner node for 42 records, and one more
abbrev pub HaveFewInnerNodes : Type 0
HaveFewInnerNodes = OfEachTree (λ h n. inner_nodes h n ≤ count h n / 42 + 1)

-- a tree of at most 200,000 records has at most 6 levels
abbrev pub AreLow : Type 0
AreLow = OfEachTree (λ h n. count h n ≤ 200000 → h ≤ 6)

-- a query computes at most two distances for each record that the tree holds
abbrev pub QueriesAreCheap : Type 0
QueriesAreCheap =
    (dist : List ℕ → List ℕ → ℕ) (most : ℕ → ℕ) (t : PlainTree) → IsLawful dist most t
    → (centre : List ℕ) (radius : ℕ) → query_cost dist t centre radius ≤ 2 * finite.len (contents t)
