-- What a walk builds is a tree, and what it passes over is the preorder of it.
use Rattle.std.proofs.Common.{◌≡◌, ℕ, zero, suc, ◌+◌, ◌<◌, ◌≤◌, List, [], ◌∷◌, ◌++◌, length, map, sum_by, Bool, true, false, if◌then◌else◌, Option, Some, None, refl, sym, ap, subst, ◌∙◌, arith, append_assoc, add-one}
use Rattle.std.specs.Prelude.{nat_eq, nat_le}
use Rattle.std.specs.List.{AllByRecursion, flat_map}
use Rattle.std.specs.FinMap as finite
use Rattle.std.proofs.lemmas.Bool.{and_parts, leb-true, ltb-true, eqb-true}
use Rattle.std.proofs.lemmas.List.{length-map}
use Rattle.std.proofs.lemmas.List.Sums.{sum_by-cons}
use Rattle.vec_record.specs.Held.{Rows, HaveWidth}
use Rattle.vec_record.specs.Vectors.{IsVector}
use Rattle.mtree_node.specs.declared.node.LeafEntry.{LeafEntry}
use Rattle.mtree_node.specs.declared.node.InnerEntry.{InnerEntry, out-InnerEntry, roll-InnerEntry}
use Rattle.mtree_node.specs.declared.node.Node.{Node, out-Node}
use Rattle.mtree_node.specs.declared.node.Node.TheVariants as made
use Rattle.mtree_node.specs.declared.shape.Shape.{Shape}
use Rattle.mtree_node.specs.declared.shape.Shape.TheVariants as shape
use Rattle.mtree_node.specs.declared.shape.BadPlace.{BadPlace}
use Rattle.mtree_node.specs.Layer.{Layer, EntryLayer}
use Rattle.mtree_node.specs.Tree.{leaves, leaves_in, parent_distance, IsFilled, IsLeafEntry, IsInnerEntry, IsNode, IsNodeIn}
use Rattle.mtree_node.specs.Preorder.{LeafRow, InnerRow, size, size_in, leaf_row, inner_row, inner_rows, shapes_from, shapes_in, shapes_below}
use Rattle.mtree_node.specs.Walk.{Standing, Walked, Fails, Builds, go_on, walk_all, walk, walk_in, walk_leaf_row, walk_inner_row, named, covered, reaches, is_filled, is_of_level, walk_shape}
use Rattle.mtree_node.specs.Progress.{IsInnerRow, HasVectorsIn}
use Rattle.mtree_node.proofs.Opened.{out_inner, out_leaf, out_roll}
use Rattle.mtree_node.proofs.Taken.{Taken, taken_width, taken_vectors, taken_append}

-- ---- a walk that built something, taken apart

-- a walk that went on and built had built before
went_on : {A B : Type 0} (w : Walked A) (f : A → Standing → Walked B) (b : B) (u : Standing) → go_on w f ≡ Builds b u → (a : A) × (t : Standing) × (w ≡ Builds a t) × (f a t ≡ Builds b u)
went_on (Fails p) f b u is = absurd (let fails : Fails p ≡ Builds b u = is in cc)
went_on (Builds a t) f b u is = (a, t, refl, is)

-- a walk that built had passed the test
passed : {A : Type 0} (test : Bool) (w : Walked A) (p : BadPlace) (a : A) (t : Standing) → (if test then w else Fails p) ≡ Builds a t → (test ≡ true) × (w ≡ Builds a t)
passed true w p a t is = (refl, is)
passed false w p a t is = absurd (let fails : Fails p ≡ Builds a t = is in cc)

-- what holds of what was built, and of where the walk stood then
built : {A : Type 0} (P : A → Standing → Type 0) (a b : A) (s t : Standing) → Builds a s ≡ Builds b t → P a s → P b t
built P a b s t is p =
    let same : a ≡ b = cc in
    let there : s ≡ t = cc in
    subst (λ u. P b u) there (subst (λ x. P x s) same p)

-- what holds of no rows, and of a row before others, holds of all rows that were walked
walked : {R E : Type 0} (f : ℕ → R → Standing → Walked E) (P : List R → Standing → List E → Standing → Type 0)
    → ((s : Standing) → P [] s [] s) → ((entry : ℕ) (row : R) (rows : List R) (s : Standing) (e : E) (t : Standing) (es : List E) (u : Standing) → f entry row s ≡ Builds e t → P rows t es u → P (row ∷ rows) s (e ∷ es) u)
    → (entry : ℕ) (rows : List R) (s : Standing) (es : List E) (t : Standing) → walk_all f entry rows s ≡ Builds es t → P rows s es t
walked f P none more entry [] s es t is = built (λ fs u. P [] s fs u) [] es s t is (none s)
walked f P none more entry (row ∷ rows) s es t is =
    let one = went_on (f entry row s) (λ e u. go_on (walk_all f (suc entry) rows u) (λ fs v. Builds (e ∷ fs) v)) es t is in
    let others = went_on (walk_all f (suc entry) rows one.1) (λ fs v. Builds (one.0 ∷ fs) v) es t one.3 in
    built (λ fs u. P (row ∷ rows) s fs u) (one.0 ∷ others.0) es others.1 t others.3
    (more entry row rows s one.0 one.1 others.0 others.1 one.2 (walked f P none more (suc entry) rows one.1 others.0 others.1 others.2))

-- ---- tests, rows and parts

filled : (over : Option (List ℕ)) (low entries : ℕ) → is_filled over low entries ≡ true → IsFilled over low entries
filled None low entries is = let both = and_parts (nat_le low entries) (nat_le entries 30) is in (leb-true low entries both.0, leb-true entries 30 both.1)
filled (Some object) low entries is = let both = and_parts (nat_le 7 entries) (nat_le entries 30) is in (leb-true 7 entries both.0, leb-true entries 30 both.1)

reached : (dist : List ℕ → List ℕ → ℕ) (object : List ℕ) (radius : ℕ) (ls : List LeafEntry) → reaches dist object radius ls ≡ true → AllByRecursion (λ l. dist object l.vector ≤ radius) ls
reached dist object radius [] is = tt
reached dist object radius (l ∷ ls) is =
    let both = and_parts (nat_le (dist object l.vector) radius) (reaches dist object radius ls) is in
    (leb-true (dist object l.vector) radius both.0, reached dist object radius ls both.1)

all_behind : {A : Type 0} (P : A → Type 0) (xs ys : List A) → AllByRecursion P (xs ++ ys) → AllByRecursion P ys
all_behind P [] ys a = a
all_behind P (x ∷ xs) ys a = all_behind P xs ys a.1

length-rows : (sizes : Node → ℕ) (at : ℕ) (es : List InnerEntry) → length (inner_rows sizes at es) ≡ length es
length-rows sizes at [] = refl
length-rows sizes at (e ∷ es) = ap suc (length-rows sizes (at + sizes (out-InnerEntry e).child) es)

module _ (dist : List ℕ → List ℕ → ℕ) (width greatest : ℕ) where
  -- a walk that built a node: a well-formed one, whose shapes it passed over and whose leaf entries it named
  pub record IsSound (h : ℕ) (over : Option (List ℕ)) (s : Standing) (n : Node) (t : Standing) : Type 0 where
    pub node : IsNode dist width greatest h over n
    pub shapes : s.rest ≡ shapes_from h s.next n ++ t.rest
    pub next : t.next ≡ s.next + size h n
    pub taken : Taken (leaves h n) s.left t.left

  -- the same of an opened node above a height
  record IsSoundIn (h : ℕ) (over : Option (List ℕ)) (s : Standing) (n : Layer) (t : Standing) : Type 0 where
    node : IsNodeIn dist width greatest h (λ object m. IsNode dist width greatest h (Some object) m) (leaves h) over n
    shapes : s.rest ≡ shapes_in (size h) (shapes_from h) s.next n ++ t.rest
    next : t.next ≡ s.next + size_in (size h) n
    taken : Taken (leaves_in (leaves h) n) s.left t.left

  opened : (h : ℕ) (over : Option (List ℕ)) (s : Standing) (n : Node) (t : Standing) → IsSoundIn h over s (out-Node n) t → IsSound (suc h) over s n t
  opened h over s n t k = record { node = k.node; shapes = k.shapes; next = k.next; taken = k.taken }

  -- what a walk asks of where it stands: vectors of the width, in the records that are left and in the shapes before it
  abbrev pub IsReady : Standing → Type 0
  IsReady s = HaveWidth width s.left × AllByRecursion (HasVectorsIn width greatest) s.rest

  -- it holds behind a node whose shapes the walk passed over and whose records it took
  pub still_ready : (h at : ℕ) (n : Node) (s t : Standing) → IsReady s → s.rest ≡ shapes_from h at n ++ t.rest → Taken (leaves h n) s.left t.left → IsReady t
  still_ready h at n s t ready shapes taken =
      let objects = subst (AllByRecursion (HasVectorsIn width greatest)) shapes ready.1 in
      (taken_width width (leaves h n) s.left t.left ready.0 taken, all_behind (HasVectorsIn width greatest) (shapes_from h at n) t.rest objects)

  -- the walk of a child below an entry with this object
  abbrev walk_child : ℕ → List ℕ → Standing → Walked Node
  walk_child h object s = walk dist h (Some object) s

  -- ---- leaf rows

  abbrev HasParent : Option (List ℕ) → LeafEntry → Type 0
  HasParent over e = e.parent ≡ parent_distance dist over e.vector

  -- these leaf entries have the rows that were walked, and nothing but their records was taken
  record AreLeafRows (over : Option (List ℕ)) (rows : List LeafRow) (s : Standing) (es : List LeafEntry) (t : Standing) : Type 0 where
    listed : rows ≡ map leaf_row es
    parents : AllByRecursion (HasParent over) es
    rest : t.rest ≡ s.rest
    next : t.next ≡ s.next
    taken : Taken es s.left t.left

  -- where a walk stands when an entry has named its record
  abbrev without : Standing → LeafEntry → Standing
  without s e = record { next = s.next; rest = s.rest; left = finite.remove s.left e.number }

  record IsLeafRow (over : Option (List ℕ)) (row : LeafRow) (s : Standing) (o : Option (List ℕ)) (e : LeafEntry) (t : Standing) : Type 0 where
    row_of : row ≡ leaf_row e
    parent : HasParent over e
    held : o ≡ Some e.vector
    after : t ≡ without s e

  leaf_row_built : (place : ℕ) (over : Option (List ℕ)) (entry : ℕ) (row : LeafRow) (s : Standing) (o : Option (List ℕ)) (e : LeafEntry) (t : Standing) → named dist place over entry row s o ≡ Builds e t → IsLeafRow over row s o e t
  leaf_row_built place over entry row s None e t is = absurd (let fails : named dist place over entry row s None ≡ Builds e t = is in cc)
  leaf_row_built place over entry row s (Some v) e t is =
      let made : LeafEntry = record { number = row.0; vector = v; parent = row.1 } in
      let k = passed _ _ _ e t is in
      built (λ f u. IsLeafRow over row s (Some v) f u) made e (without s made) t k.1 (record { row_of = refl; parent = eqb-true row.1 (parent_distance dist over v) k.0; held = refl; after = refl })

  leaf_row_more : (over : Option (List ℕ)) (row : LeafRow) (rows : List LeafRow) (s : Standing) (e : LeafEntry) (t : Standing) (es : List LeafEntry) (u : Standing)
      → IsLeafRow over row s (finite.get s.left row.0) e t → AreLeafRows over rows t es u → AreLeafRows over (row ∷ rows) s (e ∷ es) u
  leaf_row_more over row rows s e t es u one others = record {
    listed = ap (λ r. r ∷ rows) one.row_of ∙ ap (λ rs. leaf_row e ∷ rs) others.listed;
    parents = (one.parent, others.parents);
    rest = others.rest ∙ ap (λ (x : Standing). x.rest) one.after;
    next = others.next ∙ ap (λ (x : Standing). x.next) one.after;
    taken = (subst (λ (r : LeafRow). finite.get s.left r.0 ≡ Some e.vector) one.row_of one.held, subst (λ (x : Standing). Taken es x.left u.left) one.after others.taken);
  }

  leaf_rows_built : (place : ℕ) (over : Option (List ℕ)) (rows : List LeafRow) (s : Standing) (es : List LeafEntry) (t : Standing) → walk_all (walk_leaf_row dist place over) 0 rows s ≡ Builds es t → AreLeafRows over rows s es t
  leaf_rows_built place over rows s es t is = walked (walk_leaf_row dist place over) (AreLeafRows over) (λ s. record { listed = refl; parents = tt; rest = refl; next = refl; taken = refl })
      (λ entry row rows s e t es u k others. leaf_row_more over row rows s e t es u (leaf_row_built place over entry row s (finite.get s.left row.0) e t k) others) 0 rows s es t is

  lawful : (over : Option (List ℕ)) (es : List LeafEntry) → AllByRecursion (λ e. IsVector width e.vector) es → AllByRecursion (HasParent over) es → AllByRecursion (IsLeafEntry dist width greatest over) es
  lawful over [] vectors parents = tt
  lawful over (e ∷ es) vectors parents = (record { vector = vectors.0; parent = parents.0 }, lawful over es vectors.1 parents.1)

  -- ---- inner rows

  -- an inner entry over children of this height
  abbrev IsEntry : ℕ → Option (List ℕ) → EntryLayer → Type 0
  IsEntry h over e = IsInnerEntry dist width greatest (λ object m. IsNode dist width greatest h (Some object) m) (leaves h) over e

  -- an inner entry whose row was walked
  record IsInnerRowOf (h : ℕ) (over : Option (List ℕ)) (row : InnerRow) (s : Standing) (e : EntryLayer) (t : Standing) : Type 0 where
    row_of : row ≡ inner_row s.next e
    entry : IsEntry h over e
    shapes : s.rest ≡ shapes_from h s.next e.child ++ t.rest
    next : t.next ≡ s.next + size h e.child
    taken : Taken (leaves h e.child) s.left t.left

  -- inner entries whose rows were walked
  record AreInnerRows (h : ℕ) (over : Option (List ℕ)) (rows : List InnerRow) (s : Standing) (es : List InnerEntry) (t : Standing) : Type 0 where
    listed : rows ≡ inner_rows (size h) s.next es
    entries : AllByRecursion (λ e. IsEntry h over (out-InnerEntry e)) es
    shapes : s.rest ≡ shapes_below (size h) (shapes_from h) s.next es ++ t.rest
    next : t.next ≡ s.next + sum_by (λ e. size h (out-InnerEntry e).child) es
    taken : Taken (flat_map (λ e. leaves h (out-InnerEntry e).child) es) s.left t.left

  -- what is to be proved, at one height
  abbrev IsSoundAt : ℕ → Type 0
  IsSoundAt h = (over : Option (List ℕ)) (s : Standing) (n : Node) (t : Standing) → IsReady s → is_of_level h s.rest ≡ true → walk dist h over s ≡ Builds n t → IsSound h over s n t

  covered_built : (h : ℕ) (over : Option (List ℕ)) (place entry : ℕ) (row : InnerRow) (s : Standing) (n : Node) (u : Standing) (e : InnerEntry) (t : Standing) → IsInnerRow width greatest row → row.0 ≡ s.next
      → row.1 ≡ parent_distance dist over row.3 → IsSound h (Some row.3) s n u → covered dist (leaves h) place entry row n u ≡ Builds e t → IsInnerRowOf h over row s (out-InnerEntry e) t
  covered_built h over place entry row s n u e t fits at parent child is =
      let made : EntryLayer = record { object = row.3; radius = row.2; parent = row.1; child = n } in
      let placed : ℕ → InnerRow = λ at. (at, row.1, row.2, row.3) in
      let k = passed _ _ _ e t is in
      let covers = reached dist row.3 row.2 (leaves h n) k.0 in
      built (λ f v. IsInnerRowOf h over row s (out-InnerEntry f) v) (roll-InnerEntry made) e u t k.1
      (subst (λ x. IsInnerRowOf h over row s x u) (sym (out_roll made)) (record {
        row_of = ap placed at;
        entry = record { object = fits.0; parent = parent; radius = fits.1; covers = covers; child = child.node };
        shapes = child.shapes;
        next = child.next;
        taken = child.taken;
      }))

  inner_row_built : (h : ℕ) → IsSoundAt h → (place : ℕ) (over : Option (List ℕ)) (entry : ℕ) (row : InnerRow) (s : Standing) (e : InnerEntry) (t : Standing) → IsReady s → IsInnerRow width greatest row
      → walk_inner_row dist h (walk_child h) (leaves h) place over entry row s ≡ Builds e t → IsInnerRowOf h over row s (out-InnerEntry e) t
  inner_row_built h ih place over entry row s e t ready fits is =
      let exact = passed _ _ _ e t is in
      let good = passed _ _ _ e t exact.1 in
      let both = and_parts (nat_eq row.0 s.next) (is_of_level h s.rest) good.0 in
      let child = went_on (walk_child h row.3 s) (covered dist (leaves h) place entry row) e t good.1 in
      covered_built h over place entry row s child.0 child.1 e t fits (eqb-true row.0 s.next both.0) (eqb-true row.1 (parent_distance dist over row.3) exact.0)
      (ih (Some row.3) s child.0 child.1 ready both.1 child.2) child.3

  inner_row_more : (h : ℕ) (over : Option (List ℕ)) (row : InnerRow) (rows : List InnerRow) (s : Standing) (e : InnerEntry) (t : Standing) (es : List InnerEntry) (u : Standing)
      → IsInnerRowOf h over row s (out-InnerEntry e) t → AreInnerRows h over rows t es u → AreInnerRows h over (row ∷ rows) s (e ∷ es) u
  inner_row_more h over row rows s e t es u one others =
      let child = (out-InnerEntry e).child in
      let first = shapes_from h s.next child in
      let behind = λ (at : ℕ). shapes_below (size h) (shapes_from h) at es in
      record {
        listed = ap (λ r. r ∷ rows) one.row_of ∙ ap (λ rs. inner_row s.next (out-InnerEntry e) ∷ rs) (others.listed ∙ ap (λ at. inner_rows (size h) at es) one.next);
        entries = (one.entry, others.entries);
        shapes = one.shapes ∙ ap (λ x. first ++ x) (others.shapes ∙ ap (λ at. behind at ++ u.rest) one.next) ∙ sym (append_assoc first (behind (s.next + size h child)) u.rest);
        next = omega (arith, one.next, others.next, sum_by-cons (λ (x : InnerEntry). size h (out-InnerEntry x).child) e es);
        taken = taken_append (leaves h child) (flat_map (λ x. leaves h (out-InnerEntry x).child) es) s.left t.left u.left one.taken others.taken;
      }

  -- inner rows that were walked from where a walk may stand
  abbrev WhenReady : ℕ → Option (List ℕ) → List InnerRow → Standing → List InnerEntry → Standing → Type 0
  WhenReady h over rows s es t = IsReady s → AllByRecursion (IsInnerRow width greatest) rows → AreInnerRows h over rows s es t

  inner_row_step : (h : ℕ) → IsSoundAt h → (place : ℕ) (over : Option (List ℕ)) (entry : ℕ) (row : InnerRow) (rows : List InnerRow) (s : Standing) (e : InnerEntry) (t : Standing) (es : List InnerEntry) (u : Standing)
      → walk_inner_row dist h (walk_child h) (leaves h) place over entry row s ≡ Builds e t → WhenReady h over rows t es u → WhenReady h over (row ∷ rows) s (e ∷ es) u
  inner_row_step h ih place over entry row rows s e t es u is others ready fits =
      let one = inner_row_built h ih place over entry row s e t ready fits.0 is in
      inner_row_more h over row rows s e t es u one (others (still_ready h s.next (out-InnerEntry e).child s t ready one.shapes one.taken) fits.1)

  inner_rows_built : (h : ℕ) → IsSoundAt h → (place : ℕ) (over : Option (List ℕ)) (rows : List InnerRow) (s : Standing) (es : List InnerEntry) (t : Standing)
      → walk_all (walk_inner_row dist h (walk_child h) (leaves h) place over) 0 rows s ≡ Builds es t → WhenReady h over rows s es t
  inner_rows_built h ih place over rows s es t is = walked (walk_inner_row dist h (walk_child h) (leaves h) place over) (WhenReady h over)
      (λ s ready fits. record { listed = refl; entries = tt; shapes = refl; next = omega arith; taken = refl }) (inner_row_step h ih place over) 0 rows s es t is

  -- ---- nodes

  leaf_built : (h : ℕ) (over : Option (List ℕ)) (tag : ℕ) (rows : List LeafRow) (next : ℕ) (left : Rows) (rest : List Shape) (n : Node) (t : Standing) → HaveWidth width left → h ≡ 0
      → walk_shape dist h (walk_child h) (leaves h) over next (shape.Leaf tag rows) (record { next = suc next; rest = rest; left = left }) ≡ Builds n t
      → IsSoundIn h over (record { next = next; rest = shape.Leaf tag rows ∷ rest; left = left }) (out-Node n) t
  leaf_built h over tag rows next left rest n t widths lowest is =
      let s : Standing = record { next = suc next; rest = rest; left = left } in
      let before : Standing = record { next = next; rest = shape.Leaf tag rows ∷ rest; left = left } in
      let full = passed _ _ _ n t is in
      let all = went_on (walk_all (walk_leaf_row dist next over) 0 rows s) (λ es u. Builds (made.Leaf tag es) u) n t full.1 in
      let es = all.0 in
      let k = leaf_rows_built next over rows s es all.1 all.2 in
      let many : length rows ≡ length es = ap length k.listed ∙ length-map es leaf_row in
      built (λ m u. IsSoundIn h over before (out-Node m) u) (made.Leaf tag es) n all.1 t all.3
      (subst (λ l. IsSoundIn h over before l all.1) (sym (out_leaf tag es)) (record {
        node = (lowest, subst (IsFilled over 1) many (filled over 1 (length rows) full.0), lawful over es (taken_vectors width es left all.1.left widths k.taken) k.parents);
        shapes = ap (λ rs. shape.Leaf tag rs ∷ rest) k.listed ∙ ap (λ r. shape.Leaf tag (map leaf_row es) ∷ r) (sym k.rest);
        next = omega (arith, k.next);
        taken = k.taken;
      }))

  inner_built : (h : ℕ) → IsSoundAt h → (over : Option (List ℕ)) (tag : ℕ) (rows : List InnerRow) (next : ℕ) (left : Rows) (rest : List Shape) (n : Node) (t : Standing)
      → IsReady (record { next = next; rest = shape.Inner tag rows ∷ rest; left = left }) → 0 < h
      → walk_shape dist h (walk_child h) (leaves h) over next (shape.Inner tag rows) (record { next = suc next; rest = rest; left = left }) ≡ Builds n t
      → IsSoundIn h over (record { next = next; rest = shape.Inner tag rows ∷ rest; left = left }) (out-Node n) t
  inner_built h ih over tag rows next left rest n t ready above is =
      let s : Standing = record { next = suc next; rest = rest; left = left } in
      let before : Standing = record { next = next; rest = shape.Inner tag rows ∷ rest; left = left } in
      let full = passed _ _ _ n t is in
      let all = went_on (walk_all (walk_inner_row dist h (walk_child h) (leaves h) next over) 0 rows s) (λ es u. Builds (made.Inner tag es) u) n t full.1 in
      let es = all.0 in
      let k = inner_rows_built h ih next over rows s es all.1 all.2 (ready.0, ready.1.1) ready.1.0 in
      let many : length rows ≡ length es = ap length k.listed ∙ length-rows (size h) (suc next) es in
      built (λ m u. IsSoundIn h over before (out-Node m) u) (made.Inner tag es) n all.1 t all.3
      (subst (λ l. IsSoundIn h over before l all.1) (sym (out_inner tag es)) (record {
        node = (above, subst (IsFilled over 2) many (filled over 2 (length rows) full.0), k.entries);
        shapes = rw add-one (ap (λ rs. shape.Inner tag rs ∷ rest) k.listed ∙ ap (λ r. shape.Inner tag (inner_rows (size h) (suc next) es) ∷ r) k.shapes);
        next = omega (arith, k.next);
        taken = k.taken;
      }))

  sound_in : (h : ℕ) → IsSoundAt h → (over : Option (List ℕ)) (next : ℕ) (left : Rows) (rest : List Shape) (n : Node) (t : Standing) → IsReady (record { next = next; rest = rest; left = left })
      → is_of_level (suc h) rest ≡ true → walk_in dist h (walk_child h) (leaves h) over next left rest ≡ Builds n t → IsSoundIn h over (record { next = next; rest = rest; left = left }) (out-Node n) t
  sound_in h ih over next left [] n t ready level is = absurd (let none : false ≡ true = level in cc)
  sound_in h ih over next left (shape.Leaf tag rows ∷ rest) n t ready level is =
      let lowest = eqb-true (suc h) 1 level in
      leaf_built h over tag rows next left rest n t ready.0 (omega arith) is
  sound_in h ih over next left (shape.Inner tag rows ∷ rest) n t ready level is =
      let above = ltb-true 1 (suc h) level in
      inner_built h ih over tag rows next left rest n t ready (omega arith) is

  sound_at : (h : ℕ) → IsSoundAt h
  sound_at zero over s n t ready level is = absurd (let fails : walk dist zero over s ≡ Builds n t = is in cc)
  sound_at (suc h) over s n t ready level is = opened h over s n t (sound_in h (sound_at h) over s.next s.left s.rest n t ready level is)

  pub sound : (h : ℕ) (over : Option (List ℕ)) (s : Standing) (n : Node) (t : Standing) → HaveWidth width s.left → AllByRecursion (HasVectorsIn width greatest) s.rest → is_of_level h s.rest ≡ true
      → walk dist h over s ≡ Builds n t → IsSound h over s n t
  sound h over s n t widths objects level is = sound_at h over s n t (widths, objects) level is
