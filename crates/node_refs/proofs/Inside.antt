-- Where a walk over shapes fails, it is in the list.
use Rattle.std.proofs.Common.{◌≡◌, ℕ, zero, suc, ◌+◌, ◌<◌, ◌≤◌, ◌⊎◌, Bool, true, false, if◌then◌else◌, List, [], ◌∷◌, length, Option, Some, None, refl, sym, subst, ◌∙◌, inl, inr, ⊎_elim, arith}
use Rattle.std.specs.Prelude.{nat_eq, nat_le, ◌&&◌}
use Rattle.std.specs.FinMap as finite
use Rattle.std.proofs.lemmas.Bool.{and_parts, cases_Bool, cond-true, cond-false, leb-true}
use Rattle.vec_record.specs.Held.{Rows}
use Rattle.mtree_node.specs.declared.node.LeafEntry.{LeafEntry}
use Rattle.mtree_node.specs.declared.node.Node.{Node}
use Rattle.mtree_node.specs.declared.shape.Shape.{Shape}
use Rattle.mtree_node.specs.declared.shape.Shape.TheVariants as shape
use Rattle.mtree_node.specs.declared.shape.BadPlace.{BadPlace}
use Rattle.mtree_node.specs.declared.shape.BadWhat.TheVariants as bad
use Rattle.mtree_node.specs.Tree.{leaves, parent_distance}
use Rattle.mtree_node.specs.Preorder.{LeafRow, InnerRow}
use Rattle.mtree_node.specs.Walk.{Standing, Walked, Fails, Builds, go_on, walk_all, bad_place, is_filled, is_of_level, start, unreached, failing, named, walk_leaf_row, reaches, covered, walk_inner_row, walk_shape, walk_in, walk, first_failing}
use Rattle.node_refs.specs.declared.pages.NodePage.{NodePage}
use Rattle.node_refs.specs.Listing.{listed}
use Rattle.node_refs.specs.Faults.{IsInside}
use Rattle.node_refs.specs.Laws.{FailsInside}
use Rattle.node_refs.proofs.Kept.{each_has_one, roots_are_first}

pub some_shape : (level : ℕ) (shapes : List Shape) → is_of_level level shapes ≡ true → 1 ≤ length shapes
some_shape level [] is = absurd (let no : false ≡ true = is in cc)
some_shape level (node ∷ shapes) is = omega arith

-- as many shapes were passed over and are still to come
module _ (many : ℕ) where
  abbrev EndsThere : Standing → Type 0
  EndsThere s = s.next + length s.rest ≡ many

  -- a place names one of so many shapes and an entry of at most 30
  abbrev IsNear : BadPlace → Type 0
  IsNear p = (p.node < many) × (p.entry ≤ 30)

  abbrev IsFine : {A : Type 0} → Walked A → Type 0
  IsFine (Fails p) = IsNear p
  IsFine (Builds a s) = EndsThere s

  go_fine : {A B : Type 0} (w : Walked A) (f : A → Standing → Walked B) → IsFine w → ((a : A) (s : Standing) → EndsThere s → IsFine (f a s)) → IsFine (go_on w f)
  go_fine (Fails p) f is next = is
  go_fine (Builds a s) f is next = next a s is

  if_fine : {A : Type 0} (test : Bool) (w : Walked A) (p : BadPlace) → (test ≡ true → IsFine w) → IsNear p → IsFine (if test then w else Fails p)
  if_fine true w p is near = is refl
  if_fine false w p is near = near

  all_fine : {R E : Type 0} (f : ℕ → R → Standing → Walked E) → ((entry : ℕ) (row : R) (s : Standing) → entry ≤ 30 → EndsThere s → IsFine (f entry row s))
      → (entry : ℕ) (rows : List R) (s : Standing) → entry + length rows ≤ 30 → EndsThere s → IsFine (walk_all f entry rows s)
  all_fine f fine entry [] s few ends = ends
  all_fine f fine entry (row ∷ rows) s few ends =
      go_fine (f entry row s) _ (fine entry row s (omega (arith, few)) ends)
      (λ e t here. go_fine (walk_all f (suc entry) rows t) _ (all_fine f fine (suc entry) rows t (omega (arith, few)) here) (λ es u there. there))

  filled_few : (over : Option (List ℕ)) (low entries : ℕ) → is_filled over low entries ≡ true → entries ≤ 30
  filled_few None low entries is = leb-true entries 30 (and_parts (nat_le low entries) (nat_le entries 30) is).1
  filled_few (Some object) low entries is = leb-true entries 30 (and_parts (nat_le 7 entries) (nat_le entries 30) is).1

  module _ (dist : List ℕ → List ℕ → ℕ) where
    named_fine : (place : ℕ) → place < many → (over : Option (List ℕ)) (entry : ℕ) (row : LeafRow) (s : Standing) (o : Option (List ℕ)) → entry ≤ 30 → EndsThere s → IsFine (named dist place over entry row s o)
    named_fine place inside over entry row s None few ends = (inside, few)
    named_fine place inside over entry row s (Some v) few ends =
        if_fine (nat_eq row.1 (parent_distance dist over v)) (Builds (record { number = row.0; vector = v; parent = row.1 }) (record { next = s.next; rest = s.rest; left = finite.remove s.left row.0 }))
        (bad_place place entry bad.Parent) (λ _. ends) (inside, few)

    module _ (level : ℕ) (below : List ℕ → Standing → Walked Node) (under : Node → List LeafEntry)
        (fine : (object : List ℕ) (s : Standing) → is_of_level level s.rest ≡ true → EndsThere s → IsFine (below object s)) where
      covered_fine : (place : ℕ) → place < many → (entry : ℕ) (row : InnerRow) → entry ≤ 30 → (child : Node) (s : Standing) → EndsThere s → IsFine (covered dist under place entry row child s)
      covered_fine place inside entry row few child s ends =
          if_fine (reaches dist row.3 row.2 (under child)) _ (bad_place place entry bad.Radius) (λ _. ends) (inside, few)

      inner_fine : (place : ℕ) → place < many → (over : Option (List ℕ)) (entry : ℕ) (row : InnerRow) (s : Standing) → entry ≤ 30 → EndsThere s → IsFine (walk_inner_row dist level below under place over entry row s)
      inner_fine place inside over entry row s few ends =
          let child = nat_eq row.0 s.next && is_of_level level s.rest in
          let walked = go_on (below row.3 s) (covered dist under place entry row) in
          if_fine (nat_eq row.1 (parent_distance dist over row.3)) (if child then walked else Fails (bad_place place entry bad.Child)) (bad_place place entry bad.Parent)
          (λ _. if_fine child walked (bad_place place entry bad.Child)
          (λ good. go_fine (below row.3 s) (covered dist under place entry row) (fine row.3 s (and_parts (nat_eq row.0 s.next) (is_of_level level s.rest) good).1 ends) (covered_fine place inside entry row few))
          (inside, few))
          (inside, few)

      shape_fine : (over : Option (List ℕ)) (place : ℕ) → place < many → (node : Shape) (s : Standing) → EndsThere s → IsFine (walk_shape dist level below under over place node s)
      shape_fine over place inside (shape.Leaf tag rows) s ends =
          let f = walk_leaf_row dist place over in
          if_fine (is_filled over 1 (length rows)) _ (bad_place place 0 bad.Fill)
          (λ filled. go_fine (walk_all f 0 rows s) _
          (all_fine f (λ entry row t few here. named_fine place inside over entry row t (finite.get t.left row.0) few here) 0 rows s (omega (arith, filled_few over 1 (length rows) filled)) ends) (λ es t there. there))
          (inside, omega arith)
      shape_fine over place inside (shape.Inner tag rows) s ends =
          let f = walk_inner_row dist level below under place over in
          if_fine (is_filled over 2 (length rows)) _ (bad_place place 0 bad.Fill)
          (λ filled. go_fine (walk_all f 0 rows s) _
          (all_fine f (λ entry row t few here. inner_fine place inside over entry row t few here) 0 rows s (omega (arith, filled_few over 2 (length rows) filled)) ends) (λ es t there. there))
          (inside, omega arith)

      in_fine : (over : Option (List ℕ)) (next : ℕ) (left : Rows) (rest : List Shape) → 1 ≤ length rest → next + length rest ≡ many → IsFine (walk_in dist level below under over next left rest)
      in_fine over next left [] some ends = absurd (omega (arith, some))
      in_fine over next left (node ∷ rest) some ends =
          shape_fine over next (omega (arith, ends)) node (record { next = suc next; rest = rest; left = left }) (omega (arith, ends))

    no_level : (shapes : List Shape) → is_of_level 0 shapes ≡ true → ⊥
    no_level [] is = let no : false ≡ true = is in cc
    no_level (shape.Leaf tag rows ∷ shapes) is = let no : false ≡ true = is in cc
    no_level (shape.Inner tag rows ∷ shapes) is = let no : false ≡ true = is in cc

    walk_fine : (h : ℕ) (over : Option (List ℕ)) (s : Standing) → is_of_level h s.rest ≡ true → EndsThere s → IsFine (walk dist h over s)
    walk_fine zero over s is ends = absurd (no_level s.rest is)
    walk_fine (suc h) over s is ends =
        in_fine h (λ object t. walk dist h (Some object) t) (leaves h) (λ object t. walk_fine h (Some object) t) over s.next s.left s.rest (some_shape (suc h) s.rest is) ends

  unreached_near : (next : ℕ) (rest : List Shape) (p : BadPlace) → next + length rest ≡ many → unreached next rest ≡ Some p → IsNear p
  unreached_near next [] p ends is = absurd (let none : None ≡ Some p = is in cc)
  unreached_near next (node ∷ rest) p ends is =
      let same : bad_place next 0 bad.Fill ≡ p = cc in
      subst IsNear same (omega (arith, ends), omega arith)

  failing_near : (w : Walked Node) → IsFine w → (p : BadPlace) → failing w ≡ Some p → (p.what ≡ bad.Missing) ⊎ IsNear p
  failing_near (Fails q) near p is = inr (let same : q ≡ p = cc in subst IsNear same near)
  failing_near (Builds n s) ends p is = ⊎_elim
      (λ named. inr (unreached_near s.next s.rest p ends (sym (cond-true (nat_eq (finite.len s.left) 0) (unreached s.next s.rest) (Some (bad_place 0 0 bad.Missing)) named) ∙ is)))
      (λ not. let missing : Some (bad_place 0 0 bad.Missing) ≡ Some p = sym (cond-false (nat_eq (finite.len s.left) 0) (unreached s.next s.rest) (Some (bad_place 0 0 bad.Missing)) not) ∙ is in inl (let what : p.what ≡ bad.Missing = cc in what))
      (cases_Bool (nat_eq (finite.len s.left) 0))

near_inside : (dist : List ℕ → List ℕ → ℕ) (pages : List NodePage) (height root : ℕ) (rows : Rows) (p : BadPlace) → is_of_level height (listed pages height root).shapes ≡ true
    → first_failing dist height (listed pages height root).shapes rows ≡ Some p → IsInside (listed pages height root) p
near_inside dist pages zero root rows p first is = absurd (let none : None ≡ Some p = is in cc)
near_inside dist pages (suc h) root rows p first is =
    let nodes = listed pages (suc h) root in
    let many = length nodes.shapes in
    let s = start nodes.shapes rows in
    let fine = walk_fine many dist (suc h) None s first (omega arith) in
    ⊎_elim
    (λ missing. inl missing)
    (λ near. inr (omega (arith, near.0, each_has_one pages (suc h) root), near.0, omega (arith, near.1)))
    (failing_near many (walk dist (suc h) None s) fine p is)

pub fails_inside : FailsInside
fails_inside dist pages height root rows p some is = near_inside dist pages height root rows p (roots_are_first pages height root some) is
