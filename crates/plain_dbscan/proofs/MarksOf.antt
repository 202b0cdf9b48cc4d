-- The marks of points, by their cores and the labels of these.
use Rattle.std.proofs.Common.{◌≡◌, ℕ, ◌+◌, ◌<◌, ◌≤◌, Bool, true, false, cond, List, [], ◌∷◌, ◌++◌, length, get_or, map, take, filter, position, count_by, IsTrue, Option, None, Some, refl, sym, ap, subst, ◌∙◌, inl, inr, arith}
use lib.Dec.{T}
use Rattle.std.specs.Prelude.{nat_le, nat_lt}
use Rattle.std.specs.List.{All, position_or_len}
use Rattle.std.specs.Ordering.{nat_cmp}
use Rattle.std.specs.declared.cmp.Ordering.TheVariants.{Equal}
use Rattle.std.specs.Option.{is_some}
use Rattle.std.specs.FinMap.Entries.{is_sorted, where_key, is_sorted-where_key, find-where_key, find as value_at}
use Rattle.std.proofs.lemmas.Bool.{cases_Bool}
use Rattle.std.proofs.lemmas.Bool.Decides.{nat_tests}
use Rattle.std.proofs.lemmas.List.{get_or-map, get_or_default, length-map, map-append, take_more}
use Rattle.std.proofs.lemmas.List.Sums.{length-filter, count_by-le-length}
use Rattle.std.proofs.lemmas.List.Filters.{length-filter_more}
use Rattle.std.proofs.lemmas.List.Elements.{All-filter}
use Rattle.std.proofs.lemmas.List.Quantifiers.{position-Some}
use Rattle.plain_dbscan.specs.declared.points.Point.{Point}
use Rattle.plain_dbscan.specs.declared.marks.Mark.{Mark}
use Rattle.plain_dbscan.specs.declared.marks.Mark.TheVariants.{Core, Border, Noise}
use Rattle.plain_dbscan.specs.Chains.{IsLabel}
use Rattle.plain_dbscan.specs.Marks.{Entries, numbers_of, Density, density, is_near, near_of, size_of, is_core, cores_of, cluster_of, anchor_of, outer_mark, mark_of}
use Rattle.plain_dbscan.specs.Points.{entries_of, IsOfWidth, AreOfWidth, ArePacked, is_close, is_near_row, is_core_point, mark_by_place}
use Rattle.vec_record.specs.Table.{Table}
use Rattle.plain_dbscan.specs.Merging.{is_there, AreLabels}
use Rattle.plain_dbscan.proofs.Chains.{Member, label_kept, first_of_both}
use Rattle.plain_dbscan.proofs.Members.{find_at, find_none, same_list, member_filter}
use Rattle.plain_dbscan.proofs.CoresOf.{is_cluster, other_anchor, core_mark, other_mark, none_anchor, among}
use Rattle.plain_dbscan.proofs.PointsOf.{IsIn, all_in, is_in, number_read, near_by_vectors, size_by_vectors, numbers_filtered}
use Rattle.plain_dbscan.proofs.Places.{none_passes, is_next}
use Rattle.plain_dbscan.proofs.SizesOf.{none_above}

tied_same : (x y : ℕ) → nat_cmp x y ≡ Equal → x ≡ y
tied_same x y h = grind (arith, nat_tests)

numbers_where : (test : ℕ → Bool) (rows : Entries) → numbers_of (where_key nat_cmp test rows) ≡ filter test (numbers_of rows)
numbers_where test [] = refl
numbers_where test (e ∷ es) =
    elim (test e.0) as (λ b. numbers_of (cond b (e ∷ where_key nat_cmp test es) (where_key nat_cmp test es)) ≡ cond b (e.0 ∷ filter test (numbers_of es)) (filter test (numbers_of es))) [
      | true ↦ ap (λ (xs : List ℕ). e.0 ∷ xs) (numbers_where test es)
      | false ↦ numbers_where test es
    ]

pub entries_filtered : (d : Density) (rows : Entries) (points : List Point) → entries_of (filter (is_core_point d rows) points) ≡ where_key nat_cmp (is_core d rows) (entries_of points)
entries_filtered d rows [] = refl
entries_filtered d rows (p ∷ ps) =
    elim (is_core d rows p.number) as (λ b. entries_of (cond b (p ∷ filter (is_core_point d rows) ps) (filter (is_core_point d rows) ps)) ≡ cond b ((p.number, p.vector.now) ∷ where_key nat_cmp (is_core d rows) (entries_of ps)) (where_key nat_cmp (is_core d rows) (entries_of ps))) [
      | true ↦ ap (λ (es : Entries). (p.number, p.vector.now) ∷ es) (entries_filtered d rows ps)
      | false ↦ entries_filtered d rows ps
    ]

module _ (d : Density) (rows : Entries) where
  -- the records that are cores
  abbrev core_rows : Entries
  core_rows = where_key nat_cmp (is_core d rows) rows

  value_by_core : (a : ℕ) → value_at nat_cmp a core_rows ≡ cond (is_core d rows a) (value_at nat_cmp a rows) None
  value_by_core a = find-where_key nat_cmp (is_core d rows) a (λ x e. ap (is_core d rows) (sym (tied_same a x e))) rows

  value_of_core : (a : ℕ) → IsTrue (is_core d rows a) → value_at nat_cmp a core_rows ≡ value_at nat_cmp a rows
  value_of_core a h = value_by_core a ∙ ap (λ b. cond b (value_at nat_cmp a rows) None) h

  core_there : (a : ℕ) → IsTrue (is_core d rows a) → IsTrue (is_there core_rows a)
  core_there a h = ap is_some (value_of_core a h) ∙ first_of_both _ _ h

  there_core : (a : ℕ) → IsTrue (is_there core_rows a) → IsTrue (is_core d rows a)
  there_core a h = elim (cases_Bool (is_core d rows a)) [
    | inl here ↦ here
    | inr off ↦
        let none : value_at nat_cmp a core_rows ≡ None = value_by_core a ∙ ap (λ b. cond b (value_at nat_cmp a rows) None) off in
        let bad : false ≡ true = sym (ap is_some none) ∙ h in
        absurd (cc)
  ]

  near_kept : (a b : ℕ) → IsTrue (is_there core_rows a) → IsTrue (is_there core_rows b) → is_near d core_rows a b ≡ is_near d rows a b
  near_kept a b ha hb = rw (value_of_core a (there_core a ha), value_of_core b (there_core b hb)) refl

  -- labels of the cores by themselves are those of the clusters
  pub labels_of : (m : ℕ) (labels : List ℕ) → T (is_sorted nat_cmp rows) → AreLabels (density d.dist d.eps m) core_rows labels → labels ≡ map (cluster_of d rows) (cores_of d rows)
  labels_of m labels sorted are =
      let numbers = numbers_where (is_core d rows) rows in
      let long : length core_rows ≡ length (cores_of d rows) = sym (length-map core_rows (λ (e : ℕ × List ℕ). e.0)) ∙ ap length numbers in
      same_list _ _ (are.lengths ∙ long ∙ sym (length-map (cores_of d rows) (cluster_of d rows))) (λ i h.
      let below : i < length (cores_of d rows) = simp length-map at h in
      let number : get_or (numbers_of core_rows) i 0 ≡ get_or (cores_of d rows) i 0 = ap (λ (xs : List ℕ). get_or xs i 0) numbers in
      let own = label_kept (is_there core_rows) (is_core d rows) (is_near d core_rows) (is_near d rows) there_core core_there near_kept _ _ (are.each i (omega (arith, long))) in
      let label : IsLabel (is_core d rows) (is_near d rows) (get_or (cores_of d rows) i 0) (get_or labels i 0) = subst (λ (a : ℕ). IsLabel (is_core d rows) (is_near d rows) a (get_or labels i 0)) number own in
      sym (get_or-map (cluster_of d rows) (cores_of d rows) i 0 0 below ∙ is_cluster d rows sorted _ _ label))

-- one more mark in the list
pub marks_more : (f : ℕ → Mark) (numbers : List ℕ) (i a : ℕ) (m : Mark) (marks : List (ℕ × Mark)) → i < length numbers → get_or numbers i 0 ≡ a → m ≡ f a → marks ≡ map (λ (x : ℕ). (x, f x)) (take i numbers) →
    marks ++ (a, m) ∷ [] ≡ map (λ (x : ℕ). (x, f x)) (take (i + 1) numbers)
marks_more f numbers i a m marks h at is so_far =
    ap (λ (l : List (ℕ × Mark)). l ++ (a, m) ∷ []) so_far
    ∙ ap (λ (y : Mark). map (λ (x : ℕ). (x, f x)) (take i numbers) ++ (a, y) ∷ []) is
    ∙ ap (λ (x : ℕ). map (λ (z : ℕ). (z, f z)) (take i numbers) ++ (x, f x) ∷ []) (sym at)
    ∙ sym (map-append (λ (x : ℕ). (x, f x)) (take i numbers) (get_or numbers i 0 ∷ []))
    ∙ ap (map (λ (x : ℕ). (x, f x))) (sym (take_more numbers i 0 h))

-- the two members of a list of one are one
single : (xs : List ℕ) (a c : ℕ) → length xs ≡ 1 → Member a xs → Member c xs → a ≡ c
single [] a c one ma mc = absurd ma
single (x ∷ []) a c one (inl ea) (inl ec) = ea ∙ sym ec
single (x ∷ []) a c one (inl ea) (inr mc) = absurd mc
single (x ∷ []) a c one (inr ma) mc = absurd ma
single (x ∷ y ∷ xs) a c one ma mc = absurd (omega (arith, one))

-- the first that passes among what a function makes of elements
place_map : {X Y : Type 0} (p : Y → Bool) (f : X → Y) (xs : List X) → position_or_len p (map f xs) ≡ position_or_len (λ x. p (f x)) xs
place_map p f [] = refl
place_map p f (x ∷ xs) = simp (place_map p f xs)

position_map : {X Y : Type 0} (p : Y → Bool) (f : X → Y) (xs : List X) → position p (map f xs) ≡ position (λ x. p (f x)) xs
position_map p f xs =
    ap (λ (n : ℕ). cond (nat_lt n (length (map f xs))) (Some n) None) (place_map p f xs)
    ∙ ap (λ (m : ℕ). cond (nat_lt (position_or_len (λ x. p (f x)) xs) m) (Some (position_or_len (λ x. p (f x)) xs)) None) (length-map xs f)

module _ (d : Density) (points cores : List Point) (labels : List ℕ) (sorted : T (is_sorted nat_cmp (entries_of points)))
    (cores_are : cores ≡ filter (is_core_point d (entries_of points)) points) (labels_are : labels ≡ map (cluster_of d (entries_of points)) (cores_of d (entries_of points))) where
  abbrev rows : Entries
  rows = entries_of points

  core_numbers : numbers_of (entries_of cores) ≡ cores_of d rows
  core_numbers = ap (λ (ps : List Point). numbers_of (entries_of ps)) cores_are ∙ numbers_filtered d rows points

  count_cores : length cores ≡ length (cores_of d rows)
  count_cores = sym (length-map cores _) ∙ sym (length-map (entries_of cores) _) ∙ ap length core_numbers

  core_number : (j : ℕ) (q : Point) → j < length cores → q ≡ get_or cores j q → get_or (cores_of d rows) j 0 ≡ q.number
  core_number j q h is = ap (λ (xs : List ℕ). get_or xs j 0) (sym core_numbers) ∙ number_read cores j q h is

  label_at : (j : ℕ) (q : Point) → j < length cores → q ≡ get_or cores j q → get_or labels j 0 ≡ cluster_of d rows q.number
  label_at j q h is =
      ap (λ (xs : List ℕ). get_or xs j 0) labels_are ∙ get_or-map (cluster_of d rows) (cores_of d rows) j 0 0 (omega (arith, count_cores)) ∙ ap (cluster_of d rows) (core_number j q h is)

  cores_in : All (IsIn rows) cores
  cores_in = subst (All (IsIn rows)) (sym cores_are) (All-filter (is_core_point d rows) (IsIn rows) points (all_in points sorted))

  -- the mark of a point that is a core, by the label at the place after those of the cores before it
  pub met_mark : (i j : ℕ) (p : Point) → i < length points → p ≡ get_or points i p → is_core d rows p.number ≡ true → j ≡ length (filter (is_core d rows) (take i (numbers_of rows))) → Core (get_or labels j 0) ≡ mark_of d rows p.number
  met_mark i j p h is core at =
      let lt : i < length (numbers_of rows) = simp length-map h in
      let number = number_read points i p h is in
      let next = is_next (is_core d rows) (numbers_of rows) i lt (ap (is_core d rows) number ∙ core) in
      let label : get_or labels j 0 ≡ cluster_of d rows p.number =
      ap (λ (xs : List ℕ). get_or xs j 0) labels_are
      ∙ get_or-map (cluster_of d rows) (cores_of d rows) j 0 0 (omega (arith, at, next.below))
      ∙ ap (cluster_of d rows) (ap (λ (k : ℕ). get_or (cores_of d rows) k 0) at ∙ next.is ∙ number) in
      ap Core label ∙ sym (core_mark d rows p.number core)

  pub met_below : (i j : ℕ) (p : Point) → i < length points → p ≡ get_or points i p → is_core d rows p.number ≡ true → j ≡ length (filter (is_core d rows) (take i (numbers_of rows))) → j < length labels
  met_below i j p h is core at =
      let lt : i < length (numbers_of rows) = simp length-map h in
      let next = is_next (is_core d rows) (numbers_of rows) i lt (ap (is_core d rows) (number_read points i p h is) ∙ core) in
      omega (arith, at, next.below, ap length labels_are, length-map (cores_of d rows) (cluster_of d rows))

  -- how many cores are met after one point more
  more_met : (i : ℕ) (p : Point) (b : Bool) → i < length points → p ≡ get_or points i p → is_core d rows p.number ≡ b → length (filter (is_core d rows) (take (i + 1) (numbers_of rows))) ≡ length (filter (is_core d rows) (take i (numbers_of rows))) + cond b 1 0
  more_met i p b h is core =
      let lt : i < length (numbers_of rows) = simp length-map h in
      length-filter_more (is_core d rows) (numbers_of rows) i 0 lt ∙ ap (λ (v : Bool). length (filter (is_core d rows) (take i (numbers_of rows))) + cond v 1 0) (ap (is_core d rows) (number_read points i p h is) ∙ core)

  pub next_met : (i j : ℕ) (p : Point) → i < length points → p ≡ get_or points i p → is_core d rows p.number ≡ true → j ≡ length (filter (is_core d rows) (take i (numbers_of rows))) → j + 1 ≡ length (filter (is_core d rows) (take (i + 1) (numbers_of rows)))
  next_met i j p h is core at = omega (arith, at, more_met i p true h is core)

  pub next_unmet : (i j : ℕ) (p : Point) → i < length points → p ≡ get_or points i p → is_core d rows p.number ≡ false → j ≡ length (filter (is_core d rows) (take i (numbers_of rows))) → j ≡ length (filter (is_core d rows) (take (i + 1) (numbers_of rows)))
  next_unmet i j p h is off at = omega (arith, at, more_met i p false h is off)

  -- the mark of a point that is no core
  near_core : (p : Point) → IsIn rows p → (j : ℕ) (q : Point) → j < length cores → is_near d rows p.number (get_or (cores_of d rows) j 0) ≡ is_close d.dist d.eps p.vector.now (get_or cores j q)
  near_core p hp j q h =
      let x = get_or cores j q in
      ap (is_near d rows p.number) (core_number j x h (get_or_default cores j q x h)) ∙ near_by_vectors d rows p x hp (cores_in j q h)

  outer_by_place : (p : Point) → IsIn rows p → is_core d rows p.number ≡ false → (o : Option ℕ) → position (is_close d.dist d.eps p.vector.now) cores ≡ o → mark_by_place labels o ≡ outer_mark d rows (anchor_of d rows p.number)
  outer_by_place p hp off None e =
      sym (ap (outer_mark d rows) (other_anchor d rows p.number off ∙ find_none (is_near d rows p.number) (cores_of d rows) (λ k h.
      let lt : k < length cores = omega (arith, count_cores) in
      near_core p hp k p lt ∙ none_passes (is_close d.dist d.eps p.vector.now) cores e k p lt)))
  outer_by_place p hp off (Some j) e =
      let at = position-Some (is_close d.dist d.eps p.vector.now) cores j p e in
      let q = get_or cores j p in
      let qj : q ≡ get_or cores j q = get_or_default cores j p q at.0 in
      let found : anchor_of d rows p.number ≡ Some (get_or (cores_of d rows) j 0) =
      other_anchor d rows p.number off ∙ find_at (is_near d rows p.number) (cores_of d rows) j (omega (arith, count_cores, at.0)) (λ k h. near_core p hp k p (omega (arith, at.0)) ∙ at.2 k h) (near_core p hp j p at.0 ∙ at.1) in
      ap Border (label_at j q at.0 qj) ∙ sym (ap (outer_mark d rows) (found ∙ ap Some (core_number j q at.0 qj)))

  pub unmet_mark : (i : ℕ) (p : Point) → i < length points → p ≡ get_or points i p → is_core d rows p.number ≡ false → mark_by_place labels (position (is_close d.dist d.eps p.vector.now) cores) ≡ mark_of d rows p.number
  unmet_mark i p h is off = outer_by_place p (is_in points i p sorted h is) off (position (is_close d.dist d.eps p.vector.now) cores) refl ∙ sym (other_mark d rows p.number off)

  -- the same where the vectors of the cores are rows of a block
  pub packed_mark : (t : Table) → ArePacked cores t → (i : ℕ) (p : Point) → i < length points → p ≡ get_or points i p → is_core d rows p.number ≡ false → mark_by_place labels (position (is_near_row d.dist d.eps p.vector.now) t.rows) ≡ mark_of d rows p.number
  packed_mark t packed i p h is off =
      ap (mark_by_place labels) (ap (position (is_near_row d.dist d.eps p.vector.now)) packed.rows ∙ position_map (is_near_row d.dist d.eps p.vector.now) (λ (q : Point). q.vector.now) cores)
      ∙ unmet_mark i p h is off

  -- a point that is near itself alone is noise where it is no core
  pub lone_mark : (i : ℕ) (p : Point) → i < length points → p ≡ get_or points i p → is_core d rows p.number ≡ false → d.dist p.vector.now p.vector.now ≡ 0 → count_by (is_close d.dist d.eps p.vector.now) points ≡ 1 → Noise ≡ mark_of d rows p.number
  lone_mark i p h is off itself one =
      let inside = is_in points i p sorted h is in
      let size : size_of d rows p.number ≡ 1 = size_by_vectors d points p sorted inside ∙ one in
      let near : IsTrue (is_near d rows p.number p.number) = near_by_vectors d rows p p inside inside ∙ ap (λ (n : ℕ). nat_le n d.eps) itself ∙ none_above d.eps in
      let there_p : Member p.number (numbers_of rows) = among rows p.number (ap is_some inside) in
      let mine = member_filter (is_near d rows p.number) (numbers_of rows) p.number there_p near in
      sym (other_mark d rows p.number off ∙ ap (outer_mark d rows) (none_anchor d rows p.number off (λ c core. elim (cases_Bool (is_near d rows p.number c)) [
        | inl close ↦
            let theirs = member_filter (is_near d rows p.number) (numbers_of rows) c (among rows c (first_of_both _ _ core)) close in
            let same : p.number ≡ c = single (near_of d rows p.number) p.number c size mine theirs in
            let both_ways : false ≡ true = sym off ∙ ap (is_core d rows) same ∙ core in
            absurd (cc)
        | inr apart ↦ apart
      ])))

-- the cores among points: their vectors, their order and how many they are
pub same_width : (w : ℕ) (cores : List Point) (p : Point) → AreOfWidth w cores → IsOfWidth w p → AreOfWidth (length p.vector.now) cores
same_width w cores p all here = subst (λ (n : ℕ). AreOfWidth n cores) (sym here.vector.len) all

pub cores_wide : (d : Density) (rows : Entries) (w : ℕ) (points cores : List Point) → cores ≡ filter (is_core_point d rows) points → AreOfWidth w points → AreOfWidth w cores
cores_wide d rows w points cores is all = subst (AreOfWidth w) (sym is) (All-filter (is_core_point d rows) (IsOfWidth w) points all)

pub cores_rise : (d : Density) (points cores : List Point) → cores ≡ filter (is_core_point d (entries_of points)) points → T (is_sorted nat_cmp (entries_of points)) → T (is_sorted nat_cmp (entries_of cores))
cores_rise d points cores is sorted =
    let same : entries_of cores ≡ where_key nat_cmp (is_core d (entries_of points)) (entries_of points) = ap entries_of is ∙ entries_filtered d (entries_of points) points in
    subst (λ (es : Entries). T (is_sorted nat_cmp es)) (sym same) (is_sorted-where_key nat_cmp (is_core d (entries_of points)) (entries_of points) sorted)

pub cores_few : (d : Density) (rows : Entries) (points cores : List Point) → cores ≡ filter (is_core_point d rows) points → length cores ≤ length points
cores_few d rows points cores is = omega (arith, ap length is, length-filter (is_core_point d rows) points, count_by-le-length (is_core_point d rows) points)

pub labels_by_cores : (d : Density) (points cores : List Point) (m : ℕ) (labels : List ℕ) → cores ≡ filter (is_core_point d (entries_of points)) points → T (is_sorted nat_cmp (entries_of points)) → AreLabels (density d.dist d.eps m) (entries_of cores) labels →
    labels ≡ map (cluster_of d (entries_of points)) (cores_of d (entries_of points))
labels_by_cores d points cores m labels is sorted are =
    let same : entries_of cores ≡ where_key nat_cmp (is_core d (entries_of points)) (entries_of points) = ap entries_of is ∙ entries_filtered d (entries_of points) points in
    labels_of d (entries_of points) m labels sorted (subst (λ (es : Entries). AreLabels (density d.dist d.eps m) es labels) same are)
