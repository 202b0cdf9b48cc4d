-- Two walks under distances that are equal on all vectors of a width, step by step.
use Rattle.std.proofs.Common.{◌≡◌, ℕ, zero, suc, List, [], ◌∷◌, ◌++◌, length, Bool, true, false, ◌&&◌, if◌then◌else◌, Option, Some, None, refl, sym, ap, subst, ◌∙◌}
use Rattle.std.specs.Prelude.{nat_eq, nat_le}
use Rattle.std.specs.List.{AllByRecursion, flat_map}
use Rattle.std.specs.FinMap as finite
use Rattle.vec_record.specs.Held.{Rows, HaveWidth}
use Rattle.vec_record.specs.Vectors.{IsVector}
use Rattle.mtree_node.specs.declared.node.LeafEntry.{LeafEntry}
use Rattle.mtree_node.specs.declared.node.InnerEntry.{InnerEntry, out-InnerEntry, roll-InnerEntry}
use Rattle.mtree_node.specs.declared.node.Node.{Node}
use Rattle.mtree_node.specs.declared.node.Node.TheVariants as made
use Rattle.mtree_node.specs.declared.shape.Shape.{Shape}
use Rattle.mtree_node.specs.declared.shape.Shape.TheVariants as shape
use Rattle.mtree_node.specs.declared.shape.BadPlace.{BadPlace}
use Rattle.mtree_node.specs.declared.shape.BadWhat.TheVariants as bad
use Rattle.mtree_node.specs.Layer.{EntryLayer}
use Rattle.mtree_node.specs.Tree.{leaves, leaves_in, parent_distance}
use Rattle.mtree_node.specs.Preorder.{LeafRow, InnerRow}
use Rattle.mtree_node.specs.Walk.{Standing, Walked, Fails, Builds, go_on, walk_all, walk, walk_in, walk_leaf_row, walk_inner_row, named, covered, reaches, is_filled, is_of_level, walk_shape, bad_place, start, failing}
use Rattle.mtree_node.proofs.Opened.{out_inner, out_leaf, out_roll}
use Rattle.mtree_node.proofs.Taken.{taken_width}
use Rattle.node_walks.specs.Alike.{Distance, AreAlike, HasObjects, WalksAreAlike, FailuresAreAlike}

pub all_append : {A : Type 0} (P : A → Type 0) (xs ys : List A) → AllByRecursion P xs → AllByRecursion P ys → AllByRecursion P (xs ++ ys)
all_append P [] ys a b = b
all_append P (x ∷ xs) ys a b = (a.0, all_append P xs ys a.1 b)

pub all_flat : {A B : Type 0} (P : B → Type 0) (f : A → List B) (xs : List A) → AllByRecursion (λ x. AllByRecursion P (f x)) xs → AllByRecursion P (flat_map f xs)
all_flat P f [] a = tt
all_flat P f (x ∷ xs) a = all_append P (f x) (flat_map f xs) a.0 (all_flat P f xs a.1)

module _ (width : ℕ) where
  abbrev pub IsWideEntry : LeafEntry → Type 0
  IsWideEntry e = IsVector width e.vector

  abbrev pub AreWide : List LeafEntry → Type 0
  AreWide es = AllByRecursion IsWideEntry es

  -- an object that stands above is a vector
  abbrev pub IsWideOver : Option (List ℕ) → Type 0
  IsWideOver None = Unit {0}
  IsWideOver (Some object) = IsVector width object

  -- where a walk stands: the records that are left, and the shapes ahead
  pub record IsWide (s : Standing) : Type 0 where
    pub records : HaveWidth width s.left
    pub objects : AllByRecursion (HasObjects width) s.rest

  -- what holds of what a walk built, and of where it stands then
  abbrev Fine : {A : Type 0} → (A → Type 0) → Walked A → Type 0
  Fine P (Fails p) = Unit {0}
  Fine P (Builds a t) = P a × IsWide t

  -- two walks that are the same, and what holds of them
  record AreSame {A : Type 0} (P : A → Type 0) (v w : Walked A) : Type 0 where
    same_walk : v ≡ w
    fine : Fine P v

  go_same : {A B : Type 0} (P : A → Type 0) (Q : B → Type 0) (v w : Walked A) (f g : A → Standing → Walked B) → AreSame P v w → ((a : A) (t : Standing) → P a → IsWide t → AreSame Q (f a t) (g a t)) → AreSame Q (go_on v f) (go_on w g)
  go_same P Q (Fails p) w f g a h = record { same_walk = ap (λ x. go_on x g) a.same_walk; fine = tt }
  go_same P Q (Builds b t) w f g a h =
      let k = h b t a.fine.0 a.fine.1 in
      record { same_walk = k.same_walk ∙ ap (λ x. go_on x g) a.same_walk; fine = k.fine }

  test_same : {A : Type 0} (P : A → Type 0) (b c : Bool) (v w : Walked A) (p : BadPlace) → b ≡ c → AreSame P v w → AreSame P (if b then v else Fails p) (if c then w else Fails p)
  test_same P true c v w p e k = record { same_walk = k.same_walk ∙ ap (λ x. if x then w else Fails p) e; fine = k.fine }
  test_same P false c v w p e k = record { same_walk = ap (λ x. if x then w else Fails p) e; fine = tt }

  all_same : {R E : Type 0} (O : R → Type 0) (P : E → Type 0) (f g : ℕ → R → Standing → Walked E) → ((entry : ℕ) (row : R) (s : Standing) → O row → IsWide s → AreSame P (f entry row s) (g entry row s))
      → (entry : ℕ) (rows : List R) (s : Standing) → AllByRecursion O rows → IsWide s → AreSame (AllByRecursion P) (walk_all f entry rows s) (walk_all g entry rows s)
  all_same O P f g each entry [] s os wide = record { same_walk = refl; fine = (tt, wide) }
  all_same O P f g each entry (row ∷ rows) s os wide =
      go_same P (AllByRecursion P) (f entry row s) (g entry row s)
      (λ e t. go_on (walk_all f (suc entry) rows t) (λ es u. Builds (e ∷ es) u))
      (λ e t. go_on (walk_all g (suc entry) rows t) (λ es u. Builds (e ∷ es) u))
      (each entry row s os.0 wide)
      (λ e t pe wt. go_same (AllByRecursion P) (AllByRecursion P) (walk_all f (suc entry) rows t) (walk_all g (suc entry) rows t)
      (λ es u. Builds (e ∷ es) u) (λ es u. Builds (e ∷ es) u) (all_same O P f g each (suc entry) rows t os.1 wt)
      (λ es u pes wu. record { same_walk = refl; fine = ((pe, pes), wu) }))

  module _ (dist other : Distance) (alike : AreAlike width dist other) where
    pub parents_same : (over : Option (List ℕ)) (v : List ℕ) → IsWideOver over → IsVector width v → parent_distance dist over v ≡ parent_distance other over v
    parents_same None v o is = refl
    parents_same (Some object) v o is = alike object v o is

    reaches_same : (object : List ℕ) (radius : ℕ) (es : List LeafEntry) → IsVector width object → AreWide es → reaches dist object radius es ≡ reaches other object radius es
    reaches_same object radius [] o wide = refl
    reaches_same object radius (e ∷ es) o wide =
        ap (λ d. nat_le d radius && reaches dist object radius es) (alike object e.vector o wide.0)
        ∙ ap (λ b. nat_le (other object e.vector) radius && b) (reaches_same object radius es o wide.1)

    -- ---- leaf rows

    named_same : (place : ℕ) (over : Option (List ℕ)) (entry : ℕ) (row : LeafRow) (s : Standing) (o : Option (List ℕ)) → IsWideOver over → IsWide s → finite.get s.left row.0 ≡ o
        → AreSame IsWideEntry (named dist place over entry row s o) (named other place over entry row s o)
    named_same place over entry row s None ow wide is = record { same_walk = refl; fine = tt }
    named_same place over entry row s (Some v) ow wide is =
        let vector = wide.records row.0 v is in
        let e : LeafEntry = record { number = row.0; vector = v; parent = row.1 } in
        let t : Standing = record { next = s.next; rest = s.rest; left = finite.remove s.left row.0 } in
        test_same IsWideEntry (nat_eq row.1 (parent_distance dist over v)) (nat_eq row.1 (parent_distance other over v)) (Builds e t) (Builds e t) (bad_place place entry bad.Parent)
        (ap (nat_eq row.1) (parents_same over v ow vector))
        (record {
          same_walk = refl;
          fine = (vector, record { records = taken_width width (e ∷ []) s.left (finite.remove s.left row.0) wide.records (is, refl); objects = wide.objects });
        })

    leaf_rows_same : (place : ℕ) (over : Option (List ℕ)) (rows : List LeafRow) (s : Standing) → IsWideOver over → IsWide s
        → AreSame AreWide (walk_all (walk_leaf_row dist place over) 0 rows s) (walk_all (walk_leaf_row other place over) 0 rows s)
    leaf_rows_same place over rows s ow wide =
        all_same (λ (_ : LeafRow). Unit {0}) IsWideEntry (walk_leaf_row dist place over) (walk_leaf_row other place over)
        (λ entry row t _ wt. named_same place over entry row t (finite.get t.left row.0) ow wt refl) 0 rows s (all_rows rows) wide where
          all_rows : (rs : List LeafRow) → AllByRecursion (λ (_ : LeafRow). Unit {0}) rs
          all_rows [] = tt
          all_rows (r ∷ rs) = (tt, all_rows rs)

    -- ---- inner rows

    -- what is to be proved, at one height
    abbrev AreSameAt : ℕ → Type 0
    AreSameAt h = (over : Option (List ℕ)) (s : Standing) → IsWideOver over → IsWide s → AreSame (λ n. AreWide (leaves h n)) (walk dist h over s) (walk other h over s)

    abbrev child_of : Distance → ℕ → List ℕ → Standing → Walked Node
    child_of d h object s = walk d h (Some object) s

    abbrev IsWideInner : ℕ → InnerEntry → Type 0
    IsWideInner h e = AreWide (leaves h (out-InnerEntry e).child)

    covered_same : (h place entry : ℕ) (row : InnerRow) (child : Node) (s : Standing) → IsVector width row.3 → AreWide (leaves h child) → IsWide s
        → AreSame (IsWideInner h) (covered dist (leaves h) place entry row child s) (covered other (leaves h) place entry row child s)
    covered_same h place entry row child s object below wide =
        let opened : EntryLayer = record { object = row.3; radius = row.2; parent = row.1; child = child } in
        let e : InnerEntry = roll-InnerEntry opened in
        test_same (IsWideInner h) (reaches dist row.3 row.2 (leaves h child)) (reaches other row.3 row.2 (leaves h child)) (Builds e s) (Builds e s) (bad_place place entry bad.Radius)
        (reaches_same row.3 row.2 (leaves h child) object below)
        (record { same_walk = refl; fine = (subst (λ (x : EntryLayer). AreWide (leaves h x.child)) (sym (out_roll opened)) below, wide) })

    inner_row_same : (h : ℕ) → AreSameAt h → (place : ℕ) (over : Option (List ℕ)) (entry : ℕ) (row : InnerRow) (s : Standing) → IsWideOver over → IsVector width row.3 → IsWide s
        → AreSame (IsWideInner h) (walk_inner_row dist h (child_of dist h) (leaves h) place over entry row s) (walk_inner_row other h (child_of other h) (leaves h) place over entry row s)
    inner_row_same h ih place over entry row s ow object wide =
        let place_good = nat_eq row.0 s.next && is_of_level h s.rest in
        let deep = go_on (child_of dist h row.3 s) (covered dist (leaves h) place entry row) in
        let deep_other = go_on (child_of other h row.3 s) (covered other (leaves h) place entry row) in
        test_same (IsWideInner h) (nat_eq row.1 (parent_distance dist over row.3)) (nat_eq row.1 (parent_distance other over row.3))
        (if place_good then deep else Fails (bad_place place entry bad.Child)) (if place_good then deep_other else Fails (bad_place place entry bad.Child)) (bad_place place entry bad.Parent)
        (ap (nat_eq row.1) (parents_same over row.3 ow object))
        (test_same (IsWideInner h) place_good place_good deep deep_other (bad_place place entry bad.Child) refl
        (go_same (λ n. AreWide (leaves h n)) (IsWideInner h) (child_of dist h row.3 s) (child_of other h row.3 s) (covered dist (leaves h) place entry row) (covered other (leaves h) place entry row)
        (ih (Some row.3) s object wide) (λ n t below wt. covered_same h place entry row n t object below wt)))

    -- ---- nodes

    shape_same : (h : ℕ) → AreSameAt h → (over : Option (List ℕ)) (place : ℕ) (one : Shape) (s : Standing) → IsWideOver over → HasObjects width one → IsWide s
        → AreSame (λ n. AreWide (leaves (suc h) n)) (walk_shape dist (h) (child_of dist h) (leaves h) over place one s) (walk_shape other (h) (child_of other h) (leaves h) over place one s)
    shape_same h ih over place (shape.Leaf tag rows) s ow objects wide =
        let f = walk_all (walk_leaf_row dist place over) 0 rows s in
        let g = walk_all (walk_leaf_row other place over) 0 rows s in
        let end : List LeafEntry → Standing → Walked Node = λ es t. Builds (made.Leaf tag es) t in
        test_same (λ n. AreWide (leaves (suc h) n)) (is_filled over 1 (length rows)) (is_filled over 1 (length rows)) (go_on f end) (go_on g end) (bad_place place 0 bad.Fill) refl
        (go_same AreWide (λ n. AreWide (leaves (suc h) n)) f g end end (leaf_rows_same place over rows s ow wide)
        (λ es t below wt. record { same_walk = refl; fine = (subst (λ l. AreWide (leaves_in (leaves h) l)) (sym (out_leaf tag es)) below, wt) }))
    shape_same h ih over place (shape.Inner tag rows) s ow objects wide =
        let f = walk_all (walk_inner_row dist h (child_of dist h) (leaves h) place over) 0 rows s in
        let g = walk_all (walk_inner_row other h (child_of other h) (leaves h) place over) 0 rows s in
        let end : List InnerEntry → Standing → Walked Node = λ es t. Builds (made.Inner tag es) t in
        test_same (λ n. AreWide (leaves (suc h) n)) (is_filled over 2 (length rows)) (is_filled over 2 (length rows)) (go_on f end) (go_on g end) (bad_place place 0 bad.Fill) refl
        (go_same (AllByRecursion (IsWideInner h)) (λ n. AreWide (leaves (suc h) n)) f g end end
        (all_same (λ (row : InnerRow). IsVector width row.3) (IsWideInner h) (walk_inner_row dist h (child_of dist h) (leaves h) place over) (walk_inner_row other h (child_of other h) (leaves h) place over)
        (λ entry row t object wt. inner_row_same h ih place over entry row t ow object wt) 0 rows s objects wide)
        (λ es t below wt. record {
          same_walk = refl;
          fine = (subst (λ l. AreWide (leaves_in (leaves h) l)) (sym (out_inner tag es)) (all_flat IsWideEntry (λ e. leaves h (out-InnerEntry e).child) es below), wt);
        }))

    in_same : (h : ℕ) → AreSameAt h → (over : Option (List ℕ)) (next : ℕ) (left : Rows) (rest : List Shape) → IsWideOver over → HaveWidth width left → AllByRecursion (HasObjects width) rest
        → AreSame (λ n. AreWide (leaves (suc h) n)) (walk_in dist h (child_of dist h) (leaves h) over next left rest) (walk_in other h (child_of other h) (leaves h) over next left rest)
    in_same h ih over next left [] ow records objects = record { same_walk = refl; fine = tt }
    in_same h ih over next left (one ∷ rest) ow records objects =
        shape_same h ih over next one (record { next = suc next; rest = rest; left = left }) ow objects.0 (record { records = records; objects = objects.1 })

    same_at : (h : ℕ) → AreSameAt h
    same_at zero over s ow wide = record { same_walk = refl; fine = tt }
    same_at (suc h) over s ow wide = in_same h (same_at h) over s.next s.left s.rest ow wide.records wide.objects

    -- the walks are the same below whatever object that is a vector
    pub walks_same : (h : ℕ) (over : Option (List ℕ)) (s : Standing) → IsWideOver over → IsWide s → walk dist h over s ≡ walk other h over s
    walks_same h over s ow wide = (same_at h over s ow wide).same_walk

pub walks_are_alike : WalksAreAlike
walks_are_alike width dist other alike h shapes rows have =
    walks_same width dist other alike h None (start shapes rows) tt (record { records = have.records; objects = have.objects })

pub failures_are_alike : FailuresAreAlike
failures_are_alike width dist other alike zero shapes rows have = refl
failures_are_alike width dist other alike (suc h) shapes rows have = ap failing (walks_are_alike width dist other alike (suc h) shapes rows have)
