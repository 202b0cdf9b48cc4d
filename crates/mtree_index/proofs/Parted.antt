-- The halves of 31 to 36 entries: each is well filled, reaches over what is below, and together they hold what was there.
use Rattle.std.proofs.Common.{◌≡◌, ℕ, zero, suc, ◌+◌, ◌*◌, ◌/◌, ◌%◌, ◌<◌, ◌≤◌, ◌^◌, min, nat_eq, if◌then◌else◌, Bool, true, false, List, [], ◌∷◌, length, map, get_or, sum_by, Some, refl, sym, ap, ◌∙◌, arith}
use Rattle.std.specs.List.{AllByRecursion, flat_map, slice_get}
use Rattle.std.proofs.lemmas.List.{length-map}
use Rattle.std.proofs.lemmas.List.Sums.{sum_by-cons}
use Rattle.vec_record.specs.Vectors.{IsVector}
use Rattle.mtree_split.specs.declared.pair.Parting.{Parting}
use Rattle.mtree_split.specs.Sides.{is_on, side_radius, after_turns, with_nearest, nearest_left}
use Rattle.mtree_split.specs.Choice.{parting_of, row_of}
use Rattle.mtree_split.specs.Laws.{IsRadius}
use Rattle.mtree_split.proofs.Pairs.{IsChosen, choice_is, sides_are, chosen_balanced, chosen_none_past}
use Rattle.mtree_split.proofs.Radii.{is_radius}
use Rattle.mtree_node.specs.declared.node.LeafEntry.{LeafEntry}
use Rattle.mtree_index.specs.declared.split.Half.{Half}
use Rattle.mtree_index.specs.Split.{row, distances, parting, half, left_half, right_half, on_side, with_parents}
use Rattle.mtree_index.proofs.Matrix.{length-distances, length-row, row_is}
use Rattle.mtree_index.proofs.OnSide.{with_row, length_right, length_both, length_on, sum_both, all_on}
use Rattle.mtree_index.proofs.Places.{all_append, all_get, all_weaker, get_index, length-set_at}
use Rattle.mtree_index.proofs.Totals.{total, total-flat_map, far, none_far}

-- what a split needs of a metric at a width
pub record Lawful (dist : List ℕ → List ℕ → ℕ) (width greatest : ℕ) : Type 0 where
  pub triangle : (u v x : List ℕ) → IsVector width u → IsVector width v → IsVector width x → dist u x ≤ dist u v + dist v x
  pub bound : (u v : List ℕ) → IsVector width u → IsVector width v → dist u v ≤ greatest
  pub small : greatest < 2 ^ 32

-- there is a side for each of 36 places
sides_long : (left_row right_row : List ℕ) (t : ℕ) → length (after_turns left_row right_row t).right ≡ 36
unfolding after_turns
sides_long left_row right_row zero = refl
sides_long left_row right_row (suc t) =
    let s = after_turns left_row right_row t in
    elim (nat_eq (t % 2) 1) as (λ b. length (if b then with_nearest right_row true s else with_nearest left_row false s).right ≡ 36) [
      | true ↦ length-set_at s.right (nearest_left right_row s.taken) true ∙ sides_long left_row right_row t
      | false ↦ length-set_at s.right (nearest_left left_row s.taken) false ∙ sides_long left_row right_row t
    ]

-- a radius of a chosen parting is that of its side
module _ (count : ℕ) (matrix radii : List ℕ) (greatest : ℕ) (p : Parting) (c : IsChosen count matrix radii greatest p) where
  pub left_radius_is : p.left_radius ≡ side_radius greatest (row_of count matrix p.left) radii p.sides false
  unfolding parting_of
  left_radius_is = ap (λ (q : Parting). q.left_radius) c.parting ∙ ap (λ (xs : List Bool). side_radius greatest (row_of count matrix p.left) radii xs false) (sym (sides_are count matrix radii greatest p c))

  pub right_radius_is : p.right_radius ≡ side_radius greatest (row_of count matrix p.right) radii p.sides true
  unfolding parting_of
  right_radius_is = ap (λ (q : Parting). q.right_radius) c.parting ∙ ap (λ (xs : List Bool). side_radius greatest (row_of count matrix p.right) radii xs true) (sym (sides_are count matrix radii greatest p c))

-- the numbers of a matrix of distances are small
module _ (dist : List ℕ → List ℕ → ℕ) (width greatest : ℕ) (laws : Lawful dist width greatest) where
  abbrev Small : ℕ → Type 0
  Small n = n ≤ greatest

  row_small : (o : List ℕ) (os : List (List ℕ)) → IsVector width o → AllByRecursion (IsVector width) os → AllByRecursion Small (row dist o os)
  row_small o [] i a = tt
  row_small o (x ∷ os) i a = (laws.bound o x i a.0, row_small o os i a.1)

  rows_small : (xs os : List (List ℕ)) → AllByRecursion (IsVector width) xs → AllByRecursion (IsVector width) os → AllByRecursion Small (flat_map (λ o. row dist o os) xs)
  rows_small [] os a b = tt
  rows_small (x ∷ xs) os a b = all_append Small (row dist x os) (flat_map (λ o. row dist o os) xs) (row_small x os a.0 b) (rows_small xs os a.1 b)

  small_there : (xs : List ℕ) (k : ℕ) → AllByRecursion Small xs → get_or xs k 0 < 2 ^ 32
  small_there [] k a = omega arith
  small_there (x ∷ xs) zero a = omega (arith, a.0, laws.small)
  small_there (x ∷ xs) (suc k) a = small_there xs k a.1

  -- entries of a node that is split: what is below each, what holds of each before and after, and that each vector below is no farther from an object than the way over the entry
  module _ {A : Type 0} (object_of : A → List ℕ) (radius_of : A → ℕ) (set : ℕ → A → A) (under : A → List LeafEntry) (same : (f : ℕ → List ℕ → ℕ) (d : ℕ) (e : A) → total f (under (set d e)) ≡ total f (under e))
      (Before : A → Type 0) (After : List ℕ → A → Type 0)
      (vector : (e : A) → Before e → IsVector width (object_of e))
      (near : (e : A) → Before e → (o : List ℕ) → IsVector width o → AllByRecursion (λ l. dist o l.vector ≤ min (dist o (object_of e) + radius_of e) greatest) (under e))
      (moves : (e : A) → Before e → (o : List ℕ) → IsVector width o → After o (set (dist o (object_of e)) e)) where
    -- a half is well filled, and its radius reaches to each vector below it
    pub record IsHalf (s : Half A) : Type 0 where
      pub object : IsVector width s.object
      pub radius : s.radius ≤ greatest
      pub low : 15 ≤ length s.entries
      pub high : length s.entries ≤ 18
      pub covers : total (far dist s.object s.radius) (flat_map under s.entries) ≡ 0
      pub entries : AllByRecursion (After s.object) s.entries

    objects_are : (es : List A) → AllByRecursion Before es → AllByRecursion (IsVector width) (map object_of es)
    objects_are [] b = tt
    objects_are (e ∷ es) b = (vector e b.0, objects_are es b.1)

    object_there : (os : List (List ℕ)) (i : ℕ) → AllByRecursion (IsVector width) os → i < length os → IsVector width (get_or os i [])
    object_there [] i a l = absurd (omega (arith, l))
    object_there (o ∷ os) zero a l = a.0
    object_there (o ∷ os) (suc i) a l = object_there os i a.1 (omega (arith, l))

    distance_there : (o : List ℕ) (es : List A) (k : ℕ) (e : A) → slice_get es k ≡ Some e → get_or (row dist o (map object_of es)) k 0 ≡ dist o (object_of e)
    distance_there o [] k e g = cc
    distance_there o (x ∷ es) zero e g = let at : x ≡ e = cc in ap (λ y. dist o (object_of y)) at
    distance_there o (x ∷ es) (suc k) e g = distance_there o es k e g

    inside : (es : List A) (k : ℕ) (e : A) → slice_get es k ≡ Some e → k < length es
    inside [] k e g = cc
    inside (x ∷ es) zero e g = omega arith
    inside (x ∷ es) (suc k) e g = omega (arith, inside es k e g)

    sum_of_none : (g : A → ℕ) (es : List A) → AllByRecursion (λ e. g e ≡ 0) es → sum_by g es ≡ 0
    sum_of_none g [] a = refl
    sum_of_none g (e ∷ es) a = omega (arith, sum_by-cons g e es, a.0, sum_of_none g es a.1)

    module _ (side : Bool) (promoted reach : ℕ) (sides : List Bool) (es : List A) (before : AllByRecursion Before es) (l : promoted < length es) where
      o : List ℕ
      o = get_or (map object_of es) promoted []

      move : A → A
      move e = set (dist o (object_of e)) e

      side_half : reach ≡ side_radius greatest (row dist (get_or (map object_of es) promoted []) (map object_of es)) (map radius_of es) sides side
          → 15 ≤ length (on_side side sides es) → length (on_side side sides es) ≤ 18 → IsHalf (half dist greatest object_of radius_of set side promoted reach sides es)
      unfolding o move
      side_half is low high =
          let vec : IsVector width o = object_there (map object_of es) promoted (objects_are es before) (omega (arith, l, length-map es object_of)) in
          let rows = row dist o (map object_of es) in
          let moved : on_side side sides (with_parents set rows es) ≡ on_side side sides (map move es) = ap (on_side side sides) (with_row dist object_of set o es) in
          let law : IsRadius greatest rows (map radius_of es) sides side (side_radius greatest rows (map radius_of es) sides side) = is_radius rows (map radius_of es) sides side greatest in
          let F = far dist o reach in
          let reached : (k : ℕ) (e : A) → slice_get es k ≡ Some e → is_on side (get_or sides k false) ≡ true → total F (under (move e)) ≡ 0 = λ k e g on.
          let far_off : min (get_or rows k 0 + get_or (map radius_of es) k 0) greatest ≤ reach = omega (arith, is, law.covers k (omega (arith, inside es k e g, length-row dist o (map object_of es), length-map es object_of)) on) in
          let bound : min (dist o (object_of e) + radius_of e) greatest ≤ reach = omega (arith, far_off, distance_there o es k e g, get_index radius_of es k e g) in
          same F (dist o (object_of e)) e
          ∙ none_far dist o reach (under e) (all_weaker _ (λ x. dist o x.vector ≤ reach) (under e) (λ x h. omega (arith, h, bound)) (near e (all_get Before es k e before g) o vec)) in
          record {
            object = vec;
            radius = omega (arith, is);
            low = rw moved (omega (arith, length_on move side sides es, low));
            high = rw moved (omega (arith, length_on move side sides es, high));
            covers = rw moved (total-flat_map F under (on_side side sides (map move es)) ∙ sum_of_none (λ e. total F (under e)) (on_side side sides (map move es)) (all_on move (λ e. total F (under e) ≡ 0) side sides es reached));
            entries = rw moved (all_on move (After o) side sides es (λ k e g on. moves e (all_get Before es k e before g) o vec));
          }

    -- the halves of a node of 31 to 36 entries, which together hold what was there
    pub record AreHalves (es : List A) : Type 0 where
      pub left : IsHalf (left_half dist greatest object_of radius_of set es)
      pub right : IsHalf (right_half dist greatest object_of radius_of set es)
      pub sums : (f : ℕ → List ℕ → ℕ)
          → total f (flat_map under (left_half dist greatest object_of radius_of set es).entries) + total f (flat_map under (right_half dist greatest object_of radius_of set es).entries)
          ≡ total f (flat_map under es)

    module _ (es : List A) (many : 31 ≤ length es) (few : length es ≤ 36) (before : AllByRecursion Before es) where
      chosen : IsChosen (length es) (distances dist (map object_of es)) (map radius_of es) greatest (parting dist greatest object_of radius_of set es)
      chosen = choice_is (length es) (distances dist (map object_of es)) (map radius_of es) greatest (omega arith) laws.small

      count_is : length es ≡ length (map object_of es)
      count_is = sym (length-map es object_of)

      small : (k : ℕ) → get_or (distances dist (map object_of es)) k 0 < 2 ^ 32
      small k = small_there (distances dist (map object_of es)) k (rows_small (map object_of es) (map object_of es) (objects_are es before) (objects_are es before))

      square : length (distances dist (map object_of es)) ≡ length es * length es
      square = rw (count_is) (length-distances dist (map object_of es))

      long : length (parting dist greatest object_of radius_of set es).sides ≡ 36
      long =
          ap (λ (xs : List Bool). length xs) (sides_are (length es) (distances dist (map object_of es)) (map radius_of es) greatest (parting dist greatest object_of radius_of set es) chosen)
          ∙ sides_long (row_of (length es) (distances dist (map object_of es)) (parting dist greatest object_of radius_of set es).left) (row_of (length es) (distances dist (map object_of es)) (parting dist greatest object_of radius_of set es).right) _

      right_count : length (on_side true (parting dist greatest object_of radius_of set es).sides es) ≡ length es / 2
      right_count =
          let sides = (parting dist greatest object_of radius_of set es).sides in
          let balanced = chosen_balanced (length es) (distances dist (map object_of es)) (map radius_of es) greatest (parting dist greatest object_of radius_of set es) chosen small square (omega arith) in
          let past = chosen_none_past (length es) (distances dist (map object_of es)) (map radius_of es) greatest (parting dist greatest object_of radius_of set es) chosen small square (omega arith) in
          length_right sides es (omega (arith, long)) past ∙ balanced

      row_there : (i : ℕ) → i < length es → row_of (length es) (distances dist (map object_of es)) i ≡ row dist (get_or (map object_of es) i []) (map object_of es)
      row_there i l = ap (λ (n : ℕ). row_of n (distances dist (map object_of es)) i) count_is ∙ row_is dist (map object_of es) i (omega (arith, l, count_is))

      pub halves : AreHalves es
      halves =
          let q = parting dist greatest object_of radius_of set es in
          let n = length es in
          let m = distances dist (map object_of es) in
          let r = map radius_of es in
          let inside_right : q.right < length es = chosen.inside in
          let inside_left : q.left < length es = omega (arith, chosen.rises, chosen.inside) in
          let both = length_both q.sides es (omega (arith, long)) in
          record {
            left = side_half false q.left q.left_radius q.sides es before inside_left
                (left_radius_is n m r greatest q chosen ∙ ap (λ (ds : List ℕ). side_radius greatest ds r q.sides false) (row_there q.left inside_left)) (omega (arith, both, right_count)) (omega (arith, both, right_count));
            right = side_half true q.right q.right_radius q.sides es before inside_right
                (right_radius_is n m r greatest q chosen ∙ ap (λ (ds : List ℕ). side_radius greatest ds r q.sides true) (row_there q.right inside_right)) (omega (arith, right_count)) (omega (arith, right_count));
            sums = λ f.
                let g = λ (e : A). total f (under e) in
                let left_object = get_or (map object_of es) q.left [] in
                let right_object = get_or (map object_of es) q.right [] in
                let left = on_side false q.sides (with_parents set (row dist left_object (map object_of es)) es) in
                let right = on_side true q.sides (with_parents set (row dist right_object (map object_of es)) es) in
                let left_moved : sum_by g left ≡ sum_by g (on_side false q.sides (map (λ e. set (dist left_object (object_of e)) e) es)) =
                ap (λ xs. sum_by g (on_side false q.sides xs)) (with_row dist object_of set left_object es) in
                let right_moved : sum_by g right ≡ sum_by g (on_side true q.sides (map (λ e. set (dist right_object (object_of e)) e) es)) =
                ap (λ xs. sum_by g (on_side true q.sides xs)) (with_row dist object_of set right_object es) in
                let whole = sum_both (λ e. set (dist left_object (object_of e)) e) (λ e. set (dist right_object (object_of e)) e) g q.sides es (λ e. same f _ e) (λ e. same f _ e) (omega (arith, long)) in
                omega (arith, total-flat_map f under left, total-flat_map f under right, total-flat_map f under es, left_moved, right_moved, whole);
          }
