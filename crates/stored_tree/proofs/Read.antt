-- What a walk over listed nodes means for the tree that is read.
use Rattle.std.proofs.Common.{◌≡◌, ◌↔◌, ℕ, zero, suc, ◌<◌, List, [], Option, Some, None, Ok, Err, refl, sym, ap, ◌∙◌, arith}
use Rattle.std.specs.Ordering.{nat_cmp}
use Rattle.std.specs.FinMap as finite
use Rattle.std.specs.Prelude.{true, false, nat_eq, Result, IfOk}
use Rattle.std.proofs.lemmas.Bool.{cond-true, cond-false, eq-eqb, ne_eqb}
use Rattle.vec_record.specs.Held.{Rows}
use Rattle.mtree_node.specs.declared.node.Node.{Node}
use Rattle.mtree_node.specs.declared.shape.Shape.{Shape}
use Rattle.mtree_node.specs.declared.shape.BadPlace.{BadPlace}
use Rattle.mtree_node.specs.Preorder.{size, preorder}
use Rattle.mtree_node.specs.Walk.{Standing, Walked, Builds, walk, start, failing, first_failing, IsTreeOf}
use Rattle.mtree_node.proofs.Complete.{trees_come_back}
use Rattle.mtree_index.specs.Plain.{PlainTree}
use Rattle.mtree_index.specs.Tree.{contents}
use Rattle.node_refs.specs.declared.listing.Listed.{Listed}
use Rattle.node_refs.specs.declared.pages.NodePage.{NodePage}
use Rattle.node_refs.specs.Pages.{is_used}
use Rattle.node_refs.specs.Listing.{listed}
use Rattle.node_refs.specs.Faults.{fault_at, first_used}
use Rattle.node_walks.specs.Alike.{Distance, AreAlike, HaveVectors}
use Rattle.node_walks.proofs.Walks.{walks_are_alike}
use Rattle.stored_tree.specs.Reading.{tree_with, tree_of, tree_unless, tree_below, tree_in, empty_unless, built}

-- trees with the same parts are the same
same_tree : (t x : PlainTree) → t.width ≡ x.width → t.height ≡ x.height → t.root ≡ x.root → t ≡ x
same_tree t x a b c i = record { width = a i; height = b i; root = c i }

-- where a walk ends that passed over all shapes and named all records
abbrev pub ended : ℕ → Standing
ended size = record { next = size; rest = []; left = finite.empty }

module _ (width height : ℕ) (nodes : Listed) where
  -- a walk that ended there is that of the tree that it built
  pub ended_is : (w : Walked Node) (n : Node) (size : ℕ) → w ≡ Builds n (ended size) → tree_of width height nodes w ≡ Ok (tree_with width height (Some n))
  ended_is w n size is =
      ap (tree_of width height nodes) is
      ∙ ap (tree_unless width height nodes (Some n)) (let none : failing (Builds n (ended size)) ≡ None = rw (finite.len-empty nat_cmp (List ℕ)) refl in none)

  -- a walk that failed at a place
  pub failed_is : (w : Walked Node) (p : BadPlace) → failing w ≡ Some p → tree_of width height nodes w ≡ Err (fault_at width nodes p)
  failed_is w p is = ap (tree_unless width height nodes (built w)) is

  module _ (dist other : Distance) (alike : AreAlike width dist other) (rows : Rows) (wide : HaveVectors width nodes.shapes rows) where
    same_walk : walk dist height None (start nodes.shapes rows) ≡ walk other height None (start nodes.shapes rows)
    same_walk = walks_are_alike width dist other alike height nodes.shapes rows wide

    -- the tree of the nodes under one distance is what is read under the other
    tree_is : (greatest : ℕ) (n : Node) → IsTreeOf dist width greatest height nodes.shapes rows (Some n) → tree_below other width height nodes rows ≡ Ok (tree_with width height (Some n))
    tree_is greatest n is =
        let walked = λ (shapes : List Shape) (rows : Rows). walk dist height None (start shapes rows) in
        let back = trees_come_back dist width greatest height n is.0 in
        let whole : walked nodes.shapes rows ≡ Builds n (ended (size height n)) =
        ap (λ (xs : List Shape). walked xs rows) (sym is.1) ∙ ap (walked (preorder height n)) (sym is.2) ∙ back in
        ended_is (walk other height None (start nodes.shapes rows)) n (size height n) (sym same_walk ∙ whole)

    -- a tree of the nodes has a root, above the height 0
    root_is : (greatest : ℕ) (root : Option Node) → 0 < height → IsTreeOf dist width greatest height nodes.shapes rows root → tree_below other width height nodes rows ≡ Ok (tree_with width height root)
    root_is greatest None high is = absurd (omega (arith, high, is.0))
    root_is greatest (Some n) high is = tree_is greatest n is

    -- the tree that was built is the one that is read
    pub read_is : (greatest : ℕ) (t : PlainTree) → 0 < height → (t.width ≡ width) × (t.height ≡ height) → IsTreeOf dist width greatest height nodes.shapes rows t.root → tree_below other width height nodes rows ≡ Ok t
    read_is greatest t high sizes is =
        root_is greatest t.root high is ∙ ap Ok (sym (same_tree t (tree_with width height t.root) sizes.0 sizes.1 refl))

    first_at : (h : ℕ) → 0 < h → first_failing dist h nodes.shapes rows ≡ failing (walk dist h None (start nodes.shapes rows))
    first_at zero high = absurd (omega (arith, high))
    first_at (suc h) high = refl

    -- so is the place that fails
    pub fault_is : (p : BadPlace) → 0 < height → first_failing dist height nodes.shapes rows ≡ Some p → tree_below other width height nodes rows ≡ Err (fault_at width nodes p)
    fault_is p high fails =
        failed_is (walk other height None (start nodes.shapes rows)) p (ap failing (sym same_walk) ∙ sym (first_at height high) ∙ fails)

module _ (dist : Distance) (width height root : ℕ) (pages : List NodePage) (rows : Rows) where
  -- what is read at the height 0
  pub at_zero : height ≡ 0 → empty_unless width (first_used pages) ≡ tree_in dist width height root pages rows
  unfolding tree_in
  at_zero none = sym (cond-true (nat_eq height 0) _ _ (eq-eqb height 0 none))

  module _ (high : 0 < height) where
    -- what is read above it, where the root's reference is refused
    pub at_no_root : is_used height pages root ≡ false → tree_in dist width height root pages rows ≡ Err (1, 36)
    unfolding tree_in
    at_no_root refused =
        cond-false (nat_eq height 0) _ _ (ne_eqb height 0 (λ is. omega (arith, high, is))) ∙ cond-false (is_used height pages root) _ _ refused

    -- what is read where it names a node
    pub at_root : (nodes : Listed) → is_used height pages root ≡ true → nodes ≡ listed pages height root → tree_below dist width height nodes rows ≡ tree_in dist width height root pages rows
    unfolding tree_in
    at_root nodes used is =
        ap (λ (l : Listed). tree_below dist width height l rows) is
        ∙ sym (cond-false (nat_eq height 0) _ _ (ne_eqb height 0 (λ none. omega (arith, high, none))) ∙ cond-true (is_used height pages root) _ _ used)

-- the empty tree holds no records
pub none_held : {E : Type 0} (read : Result PlainTree E) (width : ℕ) (rows : Rows) → finite.len rows ≡ 0 → IfOk read (λ t. t ≡ tree_with width 0 None) → IfOk read (λ t. contents t ≡ rows)
none_held (Ok t) width rows none is = ap contents is ∙ sym (finite.empty_of_len rows none)
none_held (Err e) width rows none is = tt

-- there are records above the height 0
pub some_rows : (height rows : ℕ) → 0 < height → ((height ≡ 0) ↔ (rows ≡ 0)) → 0 < rows
some_rows height zero high same = absurd (let none : height ≡ 0 = same.1 refl in omega (arith, high, none))
some_rows height (suc rows) high same = omega arith
