-- A tree of few records has few entries and nodes, and its queries cost little.
use Rattle.std.proofs.Common.{◌≡◌, ℕ, zero, suc, ◌+◌, ◌*◌, ◌/◌, ◌≤◌, Bool, true, false, if◌then◌else◌, List, [], ◌∷◌, length, sum_by, Option, Some, None, sym, arith, length-append}
use Rattle.std.specs.Prelude.{nat_le}
use Rattle.std.specs.FinMap.{len}
use Rattle.std.proofs.Math.Nat.{le-div_iff_mul-le}
use Rattle.std.proofs.lemmas.List.Sums.{sum_by-cons}
use Rattle.std.specs.List.{AllByRecursion, flat_map}
use Rattle.mtree_node.specs.declared.node.LeafEntry.{LeafEntry}
use Rattle.mtree_node.specs.declared.node.InnerEntry.{InnerEntry, out-InnerEntry}
use Rattle.mtree_node.specs.declared.node.Node.{Node, out-Node}
use Rattle.mtree_node.specs.declared.node.Node.TheOpen.{Node-F}
use Rattle.mtree_node.specs.Layer.{Layer, EntryLayer}
use Rattle.mtree_node.specs.Tree.{leaves, leaves_in, IsNode, IsNodeIn, IsTree}
use Rattle.mtree_node.specs.Cost.{is_skipped, leaf_cost, entry_cost, cost, cost_in}
use Rattle.mtree_index.specs.Tree.{records_of, root_cost, IsRoot}
use Rattle.mtree_index.specs.Laws.{count, entries, entries_in, leaf_nodes, leaf_nodes_in, inner_nodes, inner_nodes_in}
use Rattle.mtree_index.proofs.Distinct.{len_is}
use Rattle.mtree_index.proofs.Places.{all_weaker}

-- how many leaves, inner nodes and entries are below so many entries of a node, over so many records
record AreFew (leaves inners entries parts total : ℕ) : Type 0 where
  leaf : 7 * leaves ≤ total
  inner : 42 * inners + 7 * parts ≤ total
  all : entries + 7 * parts ≤ 2 * total

-- what is few below each entry is few below all
summed : {A : Type 0} (leaf inner all : A → ℕ) (L : A → List LeafEntry) (es : List A) → AllByRecursion (λ e. AreFew (leaf e) (inner e) (all e) 1 (length (L e))) es
    → AreFew (sum_by leaf es) (sum_by inner es) (sum_by all es) (length es) (length (flat_map L es))
summed leaf inner all L [] a = record { leaf = omega arith; inner = omega arith; all = omega arith }
summed leaf inner all L (e ∷ es) a =
    let rest = summed leaf inner all L es a.1 in
    record {
      leaf = omega (arith, a.0.leaf, rest.leaf, sum_by-cons leaf e es, length-append (L e) (flat_map L es));
      inner = omega (arith, a.0.inner, rest.inner, sum_by-cons inner e es, length-append (L e) (flat_map L es));
      all = omega (arith, a.0.all, rest.all, sum_by-cons all e es, length-append (L e) (flat_map L es));
    }

-- the shares of a root, which may have fewer entries
record IsSmall (leaves inners entries total : ℕ) : Type 0 where
  leaf : 7 * leaves ≤ total + 7
  inner : 42 * inners ≤ total + 42
  all : entries ≤ 2 * total

by_7 : (x n : ℕ) → 7 * x ≤ n + 7 → x ≤ n / 7 + 1
by_7 zero n l = omega arith
by_7 (suc x) n l = omega (arith, (le-div_iff_mul-le {k = 7} {x = x} {y = n} (omega arith)).1 (omega (arith, l)))

by_42 : (x n : ℕ) → 42 * x ≤ n + 42 → x ≤ n / 42 + 1
by_42 zero n l = omega arith
by_42 (suc x) n l = omega (arith, (le-div_iff_mul-le {k = 42} {x = x} {y = n} (omega arith)).1 (omega (arith, l)))

module _ (dist : List ℕ → List ℕ → ℕ) (w greatest : ℕ) where
  -- a node has few nodes and entries below itself
  abbrev HasFew : ℕ → Node → Type 0
  HasFew h n = AreFew (leaf_nodes h n) (inner_nodes h n) (entries h n) 1 (length (leaves h n))

  module _ (h : ℕ) (ih : (object : List ℕ) (n : Node) → IsNode dist w greatest h (Some object) n → HasFew h n) where
    below_all : (over : Option (List ℕ)) (tag : ℕ) (es : List InnerEntry) → IsNodeIn dist w greatest h (λ o m. IsNode dist w greatest h (Some o) m) (leaves h) over (Node-F.Inner tag es)
        → AreFew (sum_by (λ (e : InnerEntry). leaf_nodes h (out-InnerEntry e).child) es) (sum_by (λ (e : InnerEntry). inner_nodes h (out-InnerEntry e).child) es) (sum_by (λ (e : InnerEntry). entries h (out-InnerEntry e).child) es) (length es) (length (flat_map (λ (e : InnerEntry). leaves h (out-InnerEntry e).child) es))
    below_all over tag es s =
        summed _ _ _ (λ (e : InnerEntry). leaves h (out-InnerEntry e).child) es
        (all_weaker _ (λ (e : InnerEntry). HasFew h (out-InnerEntry e).child) es (λ e k. ih (out-InnerEntry e).object (out-InnerEntry e).child k.child) s.2)

    few_in : (object : List ℕ) (n : Layer) → IsNodeIn dist w greatest h (λ o m. IsNode dist w greatest h (Some o) m) (leaves h) (Some object) n
        → AreFew (leaf_nodes_in (leaf_nodes h) n) (inner_nodes_in (inner_nodes h) n) (entries_in (entries h) n) 1 (length (leaves_in (leaves h) n))
    few_in object (Node-F.Leaf tag es) s = record { leaf = omega (arith, s.1.0); inner = omega (arith, s.1.0); all = omega (arith, s.1.0) }
    few_in object (Node-F.Inner tag es) s =
        let below = below_all (Some object) tag es s in
        record { leaf = below.leaf; inner = omega (arith, s.1.0, below.inner); all = omega (arith, s.1.0, below.all) }

    small_in : (n : Layer) → IsNodeIn dist w greatest h (λ o m. IsNode dist w greatest h (Some o) m) (leaves h) None n
        → IsSmall (leaf_nodes_in (leaf_nodes h) n) (inner_nodes_in (inner_nodes h) n) (entries_in (entries h) n) (length (leaves_in (leaves h) n))
    small_in (Node-F.Leaf tag es) s = record { leaf = omega arith; inner = omega arith; all = omega arith }
    small_in (Node-F.Inner tag es) s =
        let below = below_all None tag es s in
        record { leaf = omega (arith, below.leaf); inner = omega (arith, s.1.0, below.inner); all = omega (arith, s.1.0, below.all) }

  few_below : (h : ℕ) (object : List ℕ) (n : Node) → IsNode dist w greatest h (Some object) n → HasFew h n
  few_below zero object n s = absurd s
  few_below (suc h) object n s = few_in h (few_below h) object (out-Node n) s

  small : (h : ℕ) (n : Node) → IsNode dist w greatest h None n → IsSmall (leaf_nodes h n) (inner_nodes h n) (entries h n) (length (leaves h n))
  small zero n s = absurd s
  small (suc h) n s = small_in h (few_below h) (out-Node n) s

  module _ (h : ℕ) (n : Node) (t : IsTree dist w greatest h n) where
    -- one leaf entry for each record
    pub an_entry_for_each : length (leaves h n) ≡ count h n
    an_entry_for_each = sym (len_is (leaves h n) t.distinct)

    -- at most two entries for each record
    pub few_entries : entries h n ≤ 2 * count h n
    few_entries = omega (arith, (small h n t.node).all, an_entry_for_each)

    pub few_leaves : leaf_nodes h n ≤ count h n / 7 + 1
    few_leaves = by_7 (leaf_nodes h n) (count h n) (omega (arith, (small h n t.node).leaf, an_entry_for_each))

    pub few_inner_nodes : inner_nodes h n ≤ count h n / 42 + 1
    few_inner_nodes = by_42 (inner_nodes h n) (count h n) (omega (arith, (small h n t.node).inner, an_entry_for_each))

leaf_costs_one : (skipped : Bool) → ◌≤◌ (if skipped then 0 else 1) 1
leaf_costs_one true = omega arith
leaf_costs_one false = omega arith

entry_costs_one : (skipped near : Bool) (below most : ℕ) → below ≤ most → ◌≤◌ (if skipped then 0 else (1 + (if near then below else 0))) (1 + most)
entry_costs_one true near below most l = omega arith
entry_costs_one false true below most l = omega (arith, l)
entry_costs_one false false below most l = omega arith

module _ (dist : List ℕ → List ℕ → ℕ) (centre : List ℕ) (radius : ℕ) where
  leaves_cost : (to : Option ℕ) (es : List LeafEntry) → sum_by (leaf_cost dist centre radius to) es ≤ length es
  leaves_cost to [] = omega arith
  leaves_cost to (e ∷ es) = omega (arith, leaves_cost to es, leaf_costs_one (is_skipped to radius e.parent), sum_by-cons (leaf_cost dist centre radius to) e es)

  module _ (h : ℕ) (ih : (to : Option ℕ) (n : Node) → cost dist centre radius h to n ≤ entries h n) where
    entry_costs : (to : Option ℕ) (e : EntryLayer) → entry_cost dist centre radius (cost dist centre radius h) to e ≤ 1 + entries h e.child
    entry_costs to e =
        entry_costs_one (is_skipped to (radius + e.radius) e.parent) (nat_le (dist centre e.object) (radius + e.radius)) (cost dist centre radius h (Some (dist centre e.object)) e.child) (entries h e.child)
        (ih (Some (dist centre e.object)) e.child)

    entries_cost : (to : Option ℕ) (es : List InnerEntry) → sum_by (λ (e : InnerEntry). entry_cost dist centre radius (cost dist centre radius h) to (out-InnerEntry e)) es ≤ length es + sum_by (λ (e : InnerEntry). entries h (out-InnerEntry e).child) es
    entries_cost to [] = omega arith
    entries_cost to (e ∷ es) =
        omega (arith, entries_cost to es, entry_costs to (out-InnerEntry e), sum_by-cons (λ (x : InnerEntry). entry_cost dist centre radius (cost dist centre radius h) to (out-InnerEntry x)) e es, sum_by-cons (λ (x : InnerEntry). entries h (out-InnerEntry x).child) e es)

    layer_costs : (to : Option ℕ) (n : Layer) → cost_in dist centre radius (cost dist centre radius h) to n ≤ entries_in (entries h) n
    layer_costs to (Node-F.Leaf tag es) = leaves_cost to es
    layer_costs to (Node-F.Inner tag es) = entries_cost to es

  -- one distance for each entry
  costs : (h : ℕ) (to : Option ℕ) (n : Node) → cost dist centre radius h to n ≤ entries h n
  costs zero to n = omega arith
  costs (suc h) to n = layer_costs h (costs h) to (out-Node n)

  -- two distances for each record
  pub cheap : (w greatest h : ℕ) (root : Option Node) → IsRoot dist w greatest h root → root_cost dist h root centre radius ≤ 2 * len (records_of h root)
  cheap w greatest h None r = omega arith
  cheap w greatest h (Some n) r = omega (arith, costs h None n, few_entries dist w greatest h n r)
