-- What a tree that is read holds: exactly the records that its walk named.
use Rattle.std.proofs.Common.{◌≡◌, ℕ, zero, suc, Bool, true, false, cond, if◌then◌else◌, List, [], ◌∷◌, Option, Some, None, Ok, Err, refl, sym, ap, subst}
use Rattle.std.specs.Prelude.{◌==◌, nat_eq}
use Rattle.std.specs.List.{flat_map}
use Rattle.std.specs.FinMap as finite
use Rattle.std.proofs.lemmas.Bool.{eqb-true}
use Rattle.vec_record.specs.Held as held
use Rattle.mtree_node.specs.declared.node.LeafEntry.{LeafEntry}
use Rattle.mtree_node.specs.declared.node.InnerEntry.{InnerEntry, out-InnerEntry, roll-InnerEntry}
use Rattle.mtree_node.specs.declared.node.Node.{Node, out-Node}
use Rattle.mtree_node.specs.declared.node.Node.TheVariants as made
use Rattle.mtree_node.specs.declared.shape.Shape.{Shape}
use Rattle.mtree_node.specs.declared.shape.Shape.TheVariants as shape
use Rattle.mtree_node.specs.declared.shape.BadPlace.{BadPlace}
use Rattle.mtree_node.specs.declared.shape.BadWhat.TheVariants as bad
use Rattle.mtree_node.specs.Layer.{Layer, EntryLayer}
use Rattle.mtree_node.specs.Tree.{leaves, leaves_in}
use Rattle.mtree_node.specs.Preorder.{LeafRow, InnerRow}
use Rattle.mtree_node.specs.Walk.{Standing, Walked, Fails, Builds, go_on, walk_all, walk, walk_in, walk_leaf_row, walk_inner_row, named, covered, walk_shape, start, unreached, bad_place}
use Rattle.mtree_node.proofs.Opened.{out_inner, out_leaf, out_roll}
use Rattle.mtree_node.proofs.Taken.{Taken, taken_append, taken_records}
use Rattle.mtree_index.specs.Plain.{PlainTree}
use Rattle.mtree_index.specs.Tree.{contents}
use Rattle.node_refs.specs.declared.pages.NodePage.{NodePage}
use Rattle.node_refs.specs.declared.listing.Listed.{Listed}
use Rattle.node_refs.specs.Pages.{is_used}
use Rattle.node_refs.specs.Listing.{listed}
use Rattle.node_refs.specs.Faults.{first_used}
use Rattle.stored_tree.specs.Reading.{Read, tree_with, empty_unless, tree_unless, tree_of, tree_below, tree_in}

-- ---- a walk that built something, taken apart

-- a walk that went on and built had built before
went_on : {A B : Type 0} (w : Walked A) (f : A → Standing → Walked B) (b : B) (u : Standing) → go_on w f ≡ Builds b u → (a : A) × (t : Standing) × (w ≡ Builds a t) × (f a t ≡ Builds b u)
went_on (Fails p) f b u is = absurd (let fails : Fails p ≡ Builds b u = is in cc)
went_on (Builds a t) f b u is = (a, t, refl, is)

-- a walk that built had passed the test
passed : {A : Type 0} (test : Bool) (w : Walked A) (p : BadPlace) (a : A) (t : Standing) → (if test then w else Fails p) ≡ Builds a t → w ≡ Builds a t
passed true w p a t is = is
passed false w p a t is = absurd (let fails : Fails p ≡ Builds a t = is in cc)

-- what holds of what was built, and of where the walk stood then
built : {A : Type 0} (P : A → Standing → Type 0) (a b : A) (s t : Standing) → Builds a s ≡ Builds b t → P a s → P b t
built P a b s t is p =
    let same : a ≡ b = cc in
    let there : s ≡ t = cc in
    subst (λ u. P b u) there (subst (λ x. P x s) same p)

-- what rows take one by one, they take together
walked : {R E : Type 0} (f : ℕ → R → Standing → Walked E) (under : E → List LeafEntry)
    → ((entry : ℕ) (row : R) (s : Standing) (e : E) (t : Standing) → f entry row s ≡ Builds e t → Taken (under e) s.left t.left)
    → (entry : ℕ) (rows : List R) (s : Standing) (es : List E) (t : Standing) → walk_all f entry rows s ≡ Builds es t → Taken (flat_map under es) s.left t.left
walked f under one entry [] s es t is = built (λ fs u. Taken (flat_map under fs) s.left u.left) [] es s t is refl
walked f under one entry (row ∷ rows) s es t is =
    let first = went_on (f entry row s) (λ e u. go_on (walk_all f (suc entry) rows u) (λ fs v. Builds (e ∷ fs) v)) es t is in
    let others = went_on (walk_all f (suc entry) rows first.1) (λ fs v. Builds (first.0 ∷ fs) v) es t first.3 in
    built (λ fs u. Taken (flat_map under fs) s.left u.left) (first.0 ∷ others.0) es others.1 t others.3
    (taken_append (under first.0) (flat_map under others.0) s.left first.1.left others.1.left (one entry row s first.0 first.1 first.2) (walked f under one (suc entry) rows first.1 others.0 others.1 others.2))

-- each alone
abbrev alone : LeafEntry → List LeafEntry
alone e = e ∷ []

flat_alone : (es : List LeafEntry) → flat_map alone es ≡ es
flat_alone [] = refl
flat_alone (e ∷ es) = ap (λ (l : List LeafEntry). e ∷ l) (flat_alone es)

module _ (dist : List ℕ → List ℕ → ℕ) where
  -- what stands below an entry with this object
  abbrev walk_child : ℕ → List ℕ → Standing → Walked Node
  walk_child h object s = walk dist h (Some object) s

  -- what is to be proved, at one height
  abbrev TakesAt : ℕ → Type 0
  TakesAt h = (over : Option (List ℕ)) (s : Standing) (n : Node) (t : Standing) → walk dist h over s ≡ Builds n t → Taken (leaves h n) s.left t.left

  leaf_row_takes : (place : ℕ) (over : Option (List ℕ)) (entry : ℕ) (row : LeafRow) (s : Standing) (o : Option (List ℕ)) (e : LeafEntry) (t : Standing) → finite.get s.left row.0 ≡ o → named dist place over entry row s o ≡ Builds e t → Taken (alone e) s.left t.left
  leaf_row_takes place over entry row s None e t at is = absurd (let fails : named dist place over entry row s None ≡ Builds e t = is in cc)
  leaf_row_takes place over entry row s (Some v) e t at is =
      let entry_made : LeafEntry = record { number = row.0; vector = v; parent = row.1 } in
      let after : Standing = record { next = s.next; rest = s.rest; left = finite.remove s.left row.0 } in
      built (λ f u. Taken (alone f) s.left u.left) entry_made e after t (passed _ _ _ e t is) (at, refl)

  leaf_rows_take : (place : ℕ) (over : Option (List ℕ)) (rows : List LeafRow) (s : Standing) (es : List LeafEntry) (t : Standing) → walk_all (walk_leaf_row dist place over) 0 rows s ≡ Builds es t → Taken es s.left t.left
  leaf_rows_take place over rows s es t is =
      subst (λ l. Taken l s.left t.left) (flat_alone es)
      (walked (walk_leaf_row dist place over) alone (λ entry row s e t k. leaf_row_takes place over entry row s (finite.get s.left row.0) e t refl k) 0 rows s es t is)

  -- the leaf entries below an inner entry
  abbrev below : ℕ → InnerEntry → List LeafEntry
  below h e = leaves h (out-InnerEntry e).child

  covered_takes : (h place entry : ℕ) (row : InnerRow) (s : Standing) (n : Node) (u : Standing) (e : InnerEntry) (t : Standing) → Taken (leaves h n) s.left u.left → covered dist (leaves h) place entry row n u ≡ Builds e t → Taken (below h e) s.left t.left
  covered_takes h place entry row s n u e t child is =
      let entry_made : EntryLayer = record { object = row.3; radius = row.2; parent = row.1; child = n } in
      built (λ f v. Taken (below h f) s.left v.left) (roll-InnerEntry entry_made) e u t (passed _ _ _ e t is)
      (subst (λ (x : EntryLayer). Taken (leaves h x.child) s.left u.left) (sym (out_roll entry_made)) child)

  inner_row_takes : (h : ℕ) → TakesAt h → (place : ℕ) (over : Option (List ℕ)) (entry : ℕ) (row : InnerRow) (s : Standing) (e : InnerEntry) (t : Standing)
      → walk_inner_row dist h (walk_child h) (leaves h) place over entry row s ≡ Builds e t → Taken (below h e) s.left t.left
  inner_row_takes h ih place over entry row s e t is =
      let exact = passed _ _ _ e t is in
      let good = passed _ _ _ e t exact in
      let child = went_on (walk_child h row.3 s) (covered dist (leaves h) place entry row) e t good in
      covered_takes h place entry row s child.0 child.1 e t (ih (Some row.3) s child.0 child.1 child.2) child.3

  leaf_takes : (h : ℕ) (over : Option (List ℕ)) (tag : ℕ) (rows : List LeafRow) (next : ℕ) (left : held.Rows) (rest : List Shape) (n : Node) (t : Standing)
      → walk_shape dist h (walk_child h) (leaves h) over next (shape.Leaf tag rows) (record { next = suc next; rest = rest; left = left }) ≡ Builds n t → Taken (leaves_in (leaves h) (out-Node n)) left t.left
  leaf_takes h over tag rows next left rest n t is =
      let s : Standing = record { next = suc next; rest = rest; left = left } in
      let full = passed _ _ _ n t is in
      let all = went_on (walk_all (walk_leaf_row dist next over) 0 rows s) (λ es u. Builds (made.Leaf tag es) u) n t full in
      built (λ m u. Taken (leaves_in (leaves h) (out-Node m)) left u.left) (made.Leaf tag all.0) n all.1 t all.3
      (subst (λ (l : Layer). Taken (leaves_in (leaves h) l) left all.1.left) (sym (out_leaf tag all.0)) (leaf_rows_take next over rows s all.0 all.1 all.2))

  inner_takes : (h : ℕ) → TakesAt h → (over : Option (List ℕ)) (tag : ℕ) (rows : List InnerRow) (next : ℕ) (left : held.Rows) (rest : List Shape) (n : Node) (t : Standing)
      → walk_shape dist h (walk_child h) (leaves h) over next (shape.Inner tag rows) (record { next = suc next; rest = rest; left = left }) ≡ Builds n t → Taken (leaves_in (leaves h) (out-Node n)) left t.left
  inner_takes h ih over tag rows next left rest n t is =
      let s : Standing = record { next = suc next; rest = rest; left = left } in
      let full = passed _ _ _ n t is in
      let all = went_on (walk_all (walk_inner_row dist h (walk_child h) (leaves h) next over) 0 rows s) (λ es u. Builds (made.Inner tag es) u) n t full in
      built (λ m u. Taken (leaves_in (leaves h) (out-Node m)) left u.left) (made.Inner tag all.0) n all.1 t all.3
      (subst (λ (l : Layer). Taken (leaves_in (leaves h) l) left all.1.left) (sym (out_inner tag all.0))
      (walked (walk_inner_row dist h (walk_child h) (leaves h) next over) (below h) (inner_row_takes h ih next over) 0 rows s all.0 all.1 all.2))

  takes_in : (h : ℕ) → TakesAt h → (over : Option (List ℕ)) (next : ℕ) (left : held.Rows) (rest : List Shape) (n : Node) (t : Standing)
      → walk_in dist h (walk_child h) (leaves h) over next left rest ≡ Builds n t → Taken (leaves_in (leaves h) (out-Node n)) left t.left
  takes_in h ih over next left [] n t is = absurd (let fails : walk_in dist h (walk_child h) (leaves h) over next left [] ≡ Builds n t = is in cc)
  takes_in h ih over next left (shape.Leaf tag rows ∷ rest) n t is = leaf_takes h over tag rows next left rest n t is
  takes_in h ih over next left (shape.Inner tag rows ∷ rest) n t is = inner_takes h ih over tag rows next left rest n t is

  -- a walk takes the records of the leaf entries below the node that it built
  pub takes : (h : ℕ) → TakesAt h
  takes zero over s n t is = absurd (let fails : walk dist zero over s ≡ Builds n t = is in cc)
  takes (suc h) over s n t is = takes_in h (takes h) over s.next s.left s.rest n t is

-- ---- a tree that was read

-- a tree of this width that holds exactly these records
pub record Holds (width : ℕ) (vectors : held.Rows) (tree : PlainTree) : Type 0 where
  pub wide : tree.width ≡ width
  pub contents : contents tree ≡ vectors

same_tree : (x y : PlainTree) → ◌≡◌ {A = Read} (Ok x) (Ok y) → x ≡ y
same_tree x y is = cc

module _ (dist : List ℕ → List ℕ → ℕ) (width height : ℕ) where
  all_named : (shapes : List Shape) (vectors : held.Rows) (n : Node) (t : Standing) → walk dist height None (start shapes vectors) ≡ Builds n t → finite.len t.left ≡ 0 → contents (tree_with width height (Some n)) ≡ vectors
  all_named shapes vectors n t is none =
      taken_records (leaves height n) vectors (subst (Taken (leaves height n) vectors) (finite.empty_of_len t.left none) (takes dist height None (start shapes vectors) n t is))

  of_walk : (nodes : Listed) (vectors : held.Rows) (tree : PlainTree) (w : Walked Node) → walk dist height None (start nodes.shapes vectors) ≡ w → tree_of width height nodes w ≡ Ok tree → Holds width vectors tree
  of_walk nodes vectors tree (Fails p) walk_is is = absurd (let no_tree : tree_of width height nodes (Fails p) ≡ Ok tree = is in cc)
  of_walk nodes vectors tree (Builds n s) walk_is is = by_left (nat_eq (finite.len s.left) 0) refl is
    where
      by_rest : (o : Option BadPlace) → finite.len s.left ≡ 0 → tree_unless width height nodes (Some n) o ≡ Ok tree → Holds width vectors tree
      by_rest None none is =
          subst (Holds width vectors) (same_tree (tree_with width height (Some n)) tree is) (record { wide = refl; contents = all_named nodes.shapes vectors n s walk_is none })
      by_rest (Some p) none is = absurd (let no_tree : tree_unless width height nodes (Some n) (Some p) ≡ Ok tree = is in cc)

      by_left : (b : Bool) → nat_eq (finite.len s.left) 0 ≡ b → tree_unless width height nodes (Some n) (cond b (unreached s.next s.rest) (Some (bad_place 0 0 bad.Missing))) ≡ Ok tree → Holds width vectors tree
      by_left true none is = by_rest (unreached s.next s.rest) (eqb-true (finite.len s.left) 0 none) is
      by_left false some is = absurd (let no_tree : tree_unless width height nodes (Some n) (Some (bad_place 0 0 bad.Missing)) ≡ Ok tree = is in cc)

  of_none : (vectors : held.Rows) (tree : PlainTree) (o : Option (ℕ × ℕ)) → vectors ≡ finite.empty → empty_unless width o ≡ Ok tree → Holds width vectors tree
  of_none vectors tree None none is = subst (Holds width vectors) (same_tree (tree_with width 0 None) tree is) (record { wide = refl; contents = sym none })
  of_none vectors tree (Some place) none is = absurd (let no_tree : empty_unless width (Some place) ≡ Ok tree = is in cc)

  -- a tree that is read holds exactly the records, where there are none at the height 0
  pub read_holds : (root : ℕ) (pages : List NodePage) (vectors : held.Rows) (tree : PlainTree) → (height ≡ 0 → vectors ≡ finite.empty) → tree_in dist width height root pages vectors ≡ Ok tree → Holds width vectors tree
  unfolding tree_in
  read_holds root pages vectors tree flat is = by_height (height == 0) (is_used height pages root) refl is
    where
      by_height : (b c : Bool) → (height == 0) ≡ b → cond b (empty_unless width (first_used pages)) (cond c (tree_below dist width height (listed pages height root) vectors) (Err (1, 36))) ≡ Ok tree → Holds width vectors tree
      by_height true c at is = of_none vectors tree (first_used pages) (flat (eqb-true height 0 at)) is
      by_height false true at is = of_walk (listed pages height root) vectors tree (walk dist height None (start (listed pages height root).shapes vectors)) refl is
      by_height false false at is = absurd (let no_tree : ◌≡◌ {A = Read} (Err (1, 36)) (Ok tree) = is in cc)
