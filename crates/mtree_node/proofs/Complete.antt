-- The walk over the preorder of a well-formed tree builds that tree.
use Rattle.std.proofs.Common.{◌≡◌, ℕ, zero, suc, ◌+◌, ◌≤◌, true, List, [], ◌∷◌, ◌++◌, length, map, sum_by, Option, Some, None, refl, sym, ap, ap₂, ◌∙◌, arith, rules, append_assoc, append-nil, add-zero, zero-add, add-one, eq-eqb, le-leb, lt-ltb}
use Rattle.std.specs.List.{AllByRecursion, flat_map}
use Rattle.std.specs.Ordering.{nat_cmp}
use Rattle.std.specs.FinMap as finite
use Rattle.std.proofs.lemmas.Bool.{and_from}
use Rattle.std.proofs.lemmas.List.{length-map}
use Rattle.std.proofs.lemmas.List.Sums.{sum_by-cons}
use Rattle.vec_record.specs.Held.{Rows}
use Rattle.mtree_node.specs.declared.node.LeafEntry.{LeafEntry}
use Rattle.mtree_node.specs.declared.node.InnerEntry.{InnerEntry, out-InnerEntry, roll-InnerEntry}
use Rattle.mtree_node.specs.declared.node.Node.{Node, out-Node, roll-Node}
use Rattle.mtree_node.specs.declared.node.Node.TheOpen.{Node-F}
use Rattle.mtree_node.specs.declared.node.Node.TheVariants as node
use Rattle.mtree_node.specs.declared.node.Node.TheViews.{the_lemmas}
use Rattle.mtree_node.specs.declared.shape.Shape.{Shape}
use Rattle.mtree_node.specs.Layer.{Layer}
use Rattle.mtree_node.specs.Tree.{leaves, leaves_in, records, IsFilled, parent_distance, IsLeafEntry, IsInnerEntry, IsNode, IsNodeIn}
use Rattle.mtree_node.specs.Preorder.{size, size_in, leaf_row, inner_row, inner_rows, shapes_below, shapes_in, shapes_from}
use Rattle.mtree_node.specs.Walk.{Standing, Builds, walk_all, is_filled, is_of_level, reaches, walk_leaf_row, walk_inner_row, walk_in, walk, start, failing, first_failing, IsTreeOf}
use Rattle.mtree_node.specs.Laws.{TreesComeBack}
use Rattle.mtree_node.proofs.Distinct.{distinct_taken}
use Rattle.mtree_node.proofs.Opened.{out_leaf, out_inner}
use Rattle.mtree_node.proofs.Taken.{Taken}

rolled : (n : Node) → roll-Node (out-Node n) ≡ n
rolled n = search (rules, the_lemmas)

rolled_entry : (e : InnerEntry) → roll-InnerEntry (out-InnerEntry e) ≡ e
rolled_entry e = search (rules, the_lemmas)

rolled_leaf : (tag : ℕ) (es : List LeafEntry) → roll-Node (Node-F.Leaf tag es) ≡ node.Leaf tag es
rolled_leaf tag es = ap roll-Node (sym (out_leaf tag es)) ∙ rolled (node.Leaf tag es)

rolled_inner : (tag : ℕ) (es : List InnerEntry) → roll-Node (Node-F.Inner tag es) ≡ node.Inner tag es
rolled_inner tag es = ap roll-Node (sym (out_inner tag es)) ∙ rolled (node.Inner tag es)

-- what two lists of entries take, the first takes up to some records between
split_taken : (es fs : List LeafEntry) (left after : Rows) → Taken (es ++ fs) left after → (between : Rows) × Taken es left between × Taken fs between after
split_taken [] fs left after t = (left, refl, t)
split_taken (e ∷ es) fs left after t = let rest = split_taken es fs (finite.remove left e.number) after t.1 in (rest.0, (t.0, rest.1), rest.2)

length-inner_rows : (size : Node → ℕ) (at : ℕ) (es : List InnerEntry) → length (inner_rows size at es) ≡ length es
length-inner_rows size at [] = refl
length-inner_rows size at (e ∷ es) = omega (arith, length-inner_rows size (at + size (out-InnerEntry e).child) es)

filled : (over : Option (List ℕ)) (low entries : ℕ) → IsFilled over low entries → is_filled over low entries ≡ true
filled None low entries f = and_from _ _ (le-leb low entries f.0) (le-leb entries 30 f.1)
filled (Some object) low entries f = and_from _ _ (le-leb 7 entries f.0) (le-leb entries 30 f.1)

module _ (dist : List ℕ → List ℕ → ℕ) (width greatest : ℕ) where
  reached : (object : List ℕ) (radius : ℕ) (ls : List LeafEntry) → AllByRecursion (λ l. dist object l.vector ≤ radius) ls → reaches dist object radius ls ≡ true
  reached object radius [] a = refl
  reached object radius (l ∷ ls) a = and_from _ _ (le-leb (dist object l.vector) radius a.0) (reached object radius ls a.1)

  leaf_row_walks : (over : Option (List ℕ)) (place entry : ℕ) (e : LeafEntry) (next : ℕ) (rest : List Shape) (left : Rows) → IsLeafEntry dist width greatest over e → finite.get left e.number ≡ Some e.vector
      → walk_leaf_row dist place over entry (leaf_row e) (record { next = next; rest = rest; left = left }) ≡ Builds e (record { next = next; rest = rest; left = finite.remove left e.number })
  leaf_row_walks over place entry e next rest left lawful got = rw (got, eq-eqb e.parent (parent_distance dist over e.vector) lawful.parent) refl

  leaf_rows_walk : (over : Option (List ℕ)) (place entry : ℕ) (es : List LeafEntry) (next : ℕ) (rest : List Shape) (left after : Rows) → AllByRecursion (IsLeafEntry dist width greatest over) es → Taken es left after
      → walk_all (walk_leaf_row dist place over) entry (map leaf_row es) (record { next = next; rest = rest; left = left }) ≡ Builds es (record { next = next; rest = rest; left = after })
  leaf_rows_walk over place entry [] next rest left after lawful taken = ap (λ (rows : Rows). Builds [] (record { next = next; rest = rest; left = rows })) (sym taken)
  leaf_rows_walk over place entry (e ∷ es) next rest left after lawful taken =
      rw (leaf_row_walks over place entry e next rest left lawful.0 taken.0, leaf_rows_walk over place (suc entry) es next rest (finite.remove left e.number) after lawful.1 taken.1) refl

  abbrev IsLayer : ℕ → Option (List ℕ) → Layer → Type 0
  IsLayer h over n = IsNodeIn dist width greatest h (λ object m. IsNode dist width greatest h (Some object) m) (leaves h) over n

  level_in : (h at : ℕ) (over : Option (List ℕ)) (n : Layer) (rest : List Shape) → IsLayer h over n → is_of_level (suc h) (shapes_in (size h) (shapes_from h) at n ++ rest) ≡ true
  level_in h at over (Node-F.Leaf tag es) rest s = eq-eqb (suc h) 1 (ap suc s.0)
  level_in h at over (Node-F.Inner tag es) rest s = lt-ltb 1 (suc h) (omega (arith, s.0))

  -- the first shape of a well-formed node is of the kind of its level
  pub level : (h at : ℕ) (over : Option (List ℕ)) (n : Node) (rest : List Shape) → IsNode dist width greatest h over n → is_of_level h (shapes_from h at n ++ rest) ≡ true
  level zero at over n rest s = absurd s
  level (suc h) at over n rest s = level_in h at over (out-Node n) rest s

  -- the walk over the shapes of any well-formed node of a height builds it
  abbrev ComesBack : ℕ → Type 0
  ComesBack h = (over : Option (List ℕ)) (n : Node) → IsNode dist width greatest h over n → (next : ℕ) (rest : List Shape) (left after : Rows) → Taken (leaves h n) left after
      → walk dist h over (record { next = next; rest = shapes_from h next n ++ rest; left = left }) ≡ Builds n (record { next = next + size h n; rest = rest; left = after })

  module _ (h : ℕ) (back : ComesBack h) where
    abbrev IsEntry : Option (List ℕ) → InnerEntry → Type 0
    IsEntry over e = IsInnerEntry dist width greatest (λ object m. IsNode dist width greatest h (Some object) m) (leaves h) over (out-InnerEntry e)

    inner_row_walks : (over : Option (List ℕ)) (place entry : ℕ) (e : InnerEntry) (next : ℕ) (rest : List Shape) (left after : Rows) → IsEntry over e → Taken (leaves h (out-InnerEntry e).child) left after
        → walk_inner_row dist h (λ object t. walk dist h (Some object) t) (leaves h) place over entry (inner_row next (out-InnerEntry e)) (record { next = next; rest = shapes_from h next (out-InnerEntry e).child ++ rest; left = left })
        ≡ Builds e (record { next = next + size h (out-InnerEntry e).child; rest = rest; left = after })
    inner_row_walks over place entry e next rest left after lawful taken =
        let x = out-InnerEntry e in
        rw (
          eq-eqb x.parent (parent_distance dist over x.object) lawful.parent,
          eq-eqb next next refl,
          level h next (Some x.object) x.child rest lawful.child,
          back (Some x.object) x.child lawful.child next rest left after taken,
          reached x.object x.radius (leaves h x.child) lawful.covers,
          rolled_entry e,
        ) refl

    inner_rows_walk : (over : Option (List ℕ)) (place entry : ℕ) (es : List InnerEntry) (next : ℕ) (rest : List Shape) (left after : Rows) → AllByRecursion (IsEntry over) es
        → Taken (flat_map (λ e. leaves h (out-InnerEntry e).child) es) left after
        → walk_all (walk_inner_row dist h (λ object t. walk dist h (Some object) t) (leaves h) place over) entry (inner_rows (size h) next es) (record { next = next; rest = shapes_below (size h) (shapes_from h) next es ++ rest; left = left })
        ≡ Builds es (record { next = next + sum_by (λ (e : InnerEntry). size h (out-InnerEntry e).child) es; rest = rest; left = after })
    inner_rows_walk over place entry [] next rest left after lawful taken = ap₂ (λ (now : ℕ) (rows : Rows). Builds [] (record { next = now; rest = rest; left = rows })) (sym (add-zero next)) (sym taken)
    inner_rows_walk over place entry (e ∷ es) next rest left after lawful taken =
        let child = (out-InnerEntry e).child in
        let parts = split_taken (leaves h child) (flat_map (λ (x : InnerEntry). leaves h (out-InnerEntry x).child) es) left after taken in
        let later : ℕ = next + size h child in
        let behind = shapes_below (size h) (shapes_from h) later es in
        rw (
          append_assoc (shapes_from h next child) behind rest,
          inner_row_walks over place entry e next (behind ++ rest) left parts.0 lawful.0 parts.1,
          inner_rows_walk over place (suc entry) es later rest parts.0 after lawful.1 parts.2,
        ) (ap (λ (now : ℕ). Builds (e ∷ es) (record { next = now; rest = rest; left = after })) (omega (arith, sum_by-cons (λ (x : InnerEntry). size h (out-InnerEntry x).child) e es)))

    complete_in : (over : Option (List ℕ)) (n : Layer) → IsLayer h over n → (next : ℕ) (rest : List Shape) (left after : Rows) → Taken (leaves_in (leaves h) n) left after
        → walk_in dist h (λ object t. walk dist h (Some object) t) (leaves h) over next left (shapes_in (size h) (shapes_from h) next n ++ rest)
        ≡ Builds (roll-Node n) (record { next = next + size_in (size h) n; rest = rest; left = after })
    complete_in over (Node-F.Leaf tag es) s next rest left after taken =
        rw (length-map es leaf_row, filled over 1 (length es) s.1, leaf_rows_walk over next 0 es (suc next) rest left after s.2 taken, add-one next, rolled_leaf tag es) refl
    complete_in over (Node-F.Inner tag es) s next rest left after taken =
        rw (
          add-one next,
          length-inner_rows (size h) (suc next) es,
          filled over 2 (length es) s.1,
          inner_rows_walk over next 0 es (suc next) rest left after s.2 taken,
          rolled_inner tag es,
        ) (ap (λ (now : ℕ). Builds (node.Inner tag es) (record { next = now; rest = rest; left = after })) (omega arith))

  -- the walk over the shapes of a well-formed node builds that node, passes over its shapes and takes away its records
  pub complete : (h : ℕ) (over : Option (List ℕ)) (n : Node) → IsNode dist width greatest h over n → (next : ℕ) (rest : List Shape) (left after : Rows) → Taken (leaves h n) left after
      → walk dist h over (record { next = next; rest = shapes_from h next n ++ rest; left = left }) ≡ Builds n (record { next = next + size h n; rest = rest; left = after })
  complete zero over n s next rest left after taken = absurd s
  complete (suc h) over n s next rest left after taken =
      complete_in h (complete h) over (out-Node n) s next rest left after taken ∙ ap (λ m. Builds m (record { next = next + size (suc h) n; rest = rest; left = after })) (rolled n)

-- where a walk ends that passed over all shapes and named all records
abbrev ended : ℕ → Standing
ended size = record { next = size; rest = []; left = finite.empty }

pub trees_come_back : TreesComeBack
trees_come_back dist width greatest h n t =
    ap (λ (shapes : List Shape). walk dist h None (start shapes (records h n))) (sym (append-nil (shapes_from h 0 n)))
    ∙ complete dist width greatest h None n t.node 0 [] (records h n) finite.empty (distinct_taken (leaves h n) t.distinct)
    ∙ ap (λ (next : ℕ). Builds n (ended next)) (zero-add (size h n))

-- the same, where shapes and records are those of a tree
comes_back : (dist : List ℕ → List ℕ → ℕ) (width greatest h : ℕ) (shapes : List Shape) (rows : Rows) (m : Node) → IsTreeOf dist width greatest h shapes rows (Some m) → walk dist h None (start shapes rows) ≡ Builds m (ended (size h m))
comes_back dist width greatest h shapes rows m tree = rw (sym tree.1, sym tree.2) (trees_come_back dist width greatest h m tree.0)

same_built : {A : Type 0} (a b : A) (s t : Standing) → Builds a s ≡ Builds b t → a ≡ b
same_built a b s t same = cc

-- the walk builds no other tree than the one over these records whose preorder the shapes are
pub only_tree : (dist : List ℕ → List ℕ → ℕ) (width greatest h : ℕ) (shapes : List Shape) (rows : Rows) (n m : Node) (t : Standing) → walk dist h None (start shapes rows) ≡ Builds n t
    → IsTreeOf dist width greatest h shapes rows (Some m) → n ≡ m
only_tree dist width greatest h shapes rows n m t is tree = same_built n m t (ended (size h m)) (sym is ∙ comes_back dist width greatest h shapes rows m tree)

none_failing : (n : Node) (size : ℕ) → failing (Builds n (ended size)) ≡ None
none_failing n size = rw (finite.len-empty nat_cmp (List ℕ)) refl

-- where there is such a tree, no place fails
pub never_fails : (dist : List ℕ → List ℕ → ℕ) (width greatest h : ℕ) (shapes : List Shape) (rows : Rows) (m : Node) → IsTreeOf dist width greatest h shapes rows (Some m) → first_failing dist h shapes rows ≡ None
never_fails dist width greatest zero shapes rows m tree = absurd tree.0.node
never_fails dist width greatest (suc h) shapes rows m tree = ap failing (comes_back dist width greatest (suc h) shapes rows m tree) ∙ none_failing m (size (suc h) m)
