-- The slots of nodes by the kinds of the body pages, of which the first is page 2: a page of kind 1
-- has records, one of kind 2 leaves, one of kind 3 one inner node.
use Rattle.std.specs.Prelude.{ℕ, ◌+◌, ◌-◌, ◌*◌, ◌==◌, Bool, true, false, not, ◌&&◌, if◌then◌else◌, List, [], ◌∷◌, ◌++◌, map, replicate, count_by}
use Rattle.std.specs.List.{range_with_len}
use Rattle.node_places.specs.declared.nodes.Tagged.{Tagged}
use Rattle.node_places.specs.Slots.{absent, filled, padded}

-- the pages of a kind, where the first page has this number
abbrev pub pages_from : ℕ → ℕ → List ℕ → List ℕ
pages_from kind page [] = []
pages_from kind page (k ∷ kinds) =
    if k == kind then page ∷ pages_from kind (page + 1) kinds
    else pages_from kind (page + 1) kinds

-- the references of the slots of the pages of a kind, with so many slots in a page, where the first
-- page has this number
abbrev pub refs_from : ℕ → ℕ → ℕ → List ℕ → List ℕ
refs_from kind slots page [] = []
refs_from kind slots page (k ∷ kinds) =
    if k == kind then range_with_len (64 * page) slots ++ refs_from kind slots (page + 1) kinds
    else refs_from kind slots (page + 1) kinds

-- the references of the leaf slots: 64 times the page, and the slot in it
abbrev pub leaf_refs : List ℕ → List ℕ
leaf_refs kinds = refs_from 2 63 2 kinds

-- the references of the inner pages: 64 times the page
abbrev pub inner_refs : List ℕ → List ℕ
inner_refs kinds = refs_from 3 1 2 kinds

-- whether a node is a leaf, or whether it is none, as is asked
abbrev pub is_of : Bool → Tagged → Bool
is_of leaf node = if leaf then node.leaf else not node.leaf

-- the first node of a kind with a tag, where nodes count from i; 0 where there is none
abbrev pub holder : ℕ → Bool → List Tagged → ℕ → ℕ
holder i leaf [] tag = 0
holder i leaf (node ∷ nodes) tag =
    if is_of leaf node && (node.tag == tag) then i else holder (i + 1) leaf nodes tag

-- the nodes of a kind, where nodes count from i
abbrev pub numbers_from : ℕ → Bool → List Tagged → List ℕ
numbers_from i leaf [] = []
numbers_from i leaf (node ∷ nodes) =
    if is_of leaf node then i ∷ numbers_from (i + 1) leaf nodes
    else numbers_from (i + 1) leaf nodes

-- the nodes of a kind that keep their places, by slot
abbrev pub keepers : Bool → List ℕ → List Tagged → List ℕ
keepers leaf refs nodes = map (holder 1 leaf nodes) refs

-- those that keep none, in the order of the walk
abbrev pub homeless : Bool → List ℕ → List Tagged → List ℕ
homeless leaf refs nodes = absent (keepers leaf refs nodes) (numbers_from 1 leaf nodes)

-- the nodes of a kind by slot: those that keep no place take the lowest free ones
abbrev pub settled : Bool → List ℕ → List Tagged → List ℕ
settled leaf refs nodes = filled (keepers leaf refs nodes) (homeless leaf refs nodes)

-- the leaves by slot after a save, where the body pages had these kinds
abbrev pub leaf_slots : List ℕ → List Tagged → List ℕ
leaf_slots kinds nodes = padded 63 (settled true (leaf_refs kinds) nodes)

-- the inner nodes by slot after a save
abbrev pub inner_slots : List ℕ → List Tagged → List ℕ
inner_slots kinds nodes = settled false (inner_refs kinds) nodes

-- how many pages are of a kind
abbrev pub count_of : ℕ → List ℕ → ℕ
count_of kind kinds = count_by (λ k. k == kind) kinds

-- the kinds after a save that needs so many pages of each: new record pages first, then leaf pages,
-- then inner pages
abbrev pub kinds_after : List ℕ → ℕ → ℕ → ℕ → List ℕ
kinds_after kinds records leaves inners =
    kinds ++ (replicate (records - count_of 1 kinds) 1
    ++ (replicate (leaves - count_of 2 kinds) 2 ++ replicate (inners - count_of 3 kinds) 3))

-- the reference of the first slot in which a number stands; 0 where it stands in none
abbrev pub ref_of : List ℕ → List ℕ → ℕ → ℕ
ref_of [] refs n = 0
ref_of (m ∷ slots) [] n = 0
ref_of (m ∷ slots) (r ∷ refs) n = if m == n then r else ref_of slots refs n

-- the references of nodes, which count from i, by those of the leaves and of the inner nodes
abbrev pub refs_by : (ℕ → ℕ) → (ℕ → ℕ) → ℕ → List Tagged → List ℕ
refs_by leaf_ref inner_ref i [] = []
refs_by leaf_ref inner_ref i (node ∷ nodes) =
    (if node.leaf then leaf_ref i else inner_ref i) ∷ refs_by leaf_ref inner_ref (i + 1) nodes

-- the reference of each node after a save: that of the slot in which it stands
abbrev pub refs_after : List ℕ → List ℕ → List ℕ → List Tagged → List ℕ
refs_after kinds leaves inners nodes =
    refs_by (ref_of leaves (leaf_refs kinds)) (ref_of inners (inner_refs kinds)) 1 nodes
