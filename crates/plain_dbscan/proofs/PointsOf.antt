-- Points in a list: what the records have at their numbers.
use Rattle.std.proofs.Common.{◌≡◌, ℕ, zero, suc, ◌+◌, ◌<◌, Bool, true, false, cond, List, [], ◌∷◌, ◌++◌, length, get_or, take, filter, count_by, Option, None, Some, IfSome, refl, sym, ap, subst, ◌∙◌, arith}
use lib.Dec.{T}
use Rattle.std.specs.Prelude.{nat_le}
use Rattle.std.specs.List.{All}
use Rattle.std.specs.Ordering.{nat_cmp, eq_by_cmp}
use Rattle.std.specs.FinMap.Entries.{is_sorted, find as value_at}
use Rattle.std.proofs.lemmas.Bool.Decides.{nat_tests}
use Rattle.std.proofs.lemmas.List.{get_or-map, get_or_default, length-map, map-append}
use Rattle.std.proofs.lemmas.List.Sums.{length-filter}
use Rattle.std.proofs.lemmas.List.Elements.{All-head, All-tail, filter_more}
use Rattle.vec_record.specs.Vectors.{IsVector, IsWidth}
use Rattle.vec_record.specs.Held.{AreAll}
use Rattle.plain_dbscan.specs.declared.points.Point.{Point}
use Rattle.plain_dbscan.specs.Marks.{Entries, numbers_of, Density, is_near, is_core, size_of, within}
use Rattle.plain_dbscan.specs.Points.{entries_of, IsOfWidth, AreOfWidth, ArePointSizes, is_close, is_core_point}
use Rattle.plain_dbscan.proofs.Chains.{Member}
use Rattle.plain_dbscan.proofs.Members.{Rises, member_at}
use Rattle.plain_dbscan.proofs.CoresOf.{rises_sorted, core_by_size}

-- where the numbers rise, the records have each entry at its number
apart : (a x : ℕ) → x < a → eq_by_cmp nat_cmp a x ≡ false
apart a x h = grind (arith, nat_tests)

tied : (a x : ℕ) → a ≡ x → eq_by_cmp nat_cmp a x ≡ true
tied a x h = grind (arith, nat_tests)

pub value_at_place : (es : Entries) (i : ℕ) → Rises (numbers_of es) → i < length es → value_at nat_cmp (get_or (numbers_of es) i 0) es ≡ Some (get_or es i (0, [])).1
value_at_place [] i r h = absurd (omega arith)
value_at_place (e ∷ es) zero r h = ap (λ b. cond b (Some e.1) (value_at nat_cmp e.0 es)) (tied e.0 e.0 refl)
value_at_place (e ∷ es) (suc i) r h =
    let lt : i < length (numbers_of es) = simp length-map (omega arith) in
    let off : eq_by_cmp nat_cmp (get_or (numbers_of es) i 0) e.0 ≡ false = apart _ _ (r.0 _ (member_at (numbers_of es) i lt)) in
    ap (λ b. cond b (Some e.1) (value_at nat_cmp (get_or (numbers_of es) i 0) es)) off ∙ value_at_place es i r.1 (omega arith)

-- the records have a point's vector at its number
abbrev pub IsIn : Entries → Point → Type 0
IsIn rows p = value_at nat_cmp p.number rows ≡ Some p.vector.now

pub number_read : (points : List Point) (i : ℕ) (p : Point) → i < length points → p ≡ get_or points i p → get_or (numbers_of (entries_of points)) i 0 ≡ p.number
number_read points i p h is =
    let lt : i < length (entries_of points) = simp length-map h in
    get_or-map (λ (e : ℕ × List ℕ). e.0) (entries_of points) i (p.number, p.vector.now) 0 lt
    ∙ ap (λ (e : ℕ × List ℕ). e.0) (get_or-map (λ (q : Point). (q.number, q.vector.now)) points i p (p.number, p.vector.now) h)
    ∙ ap (λ (q : Point). q.number) (sym is)

vector_read : (points : List Point) (i : ℕ) (p : Point) → i < length points → p ≡ get_or points i p → (get_or (entries_of points) i (0, [])).1 ≡ p.vector.now
vector_read points i p h is =
    ap (λ (e : ℕ × List ℕ). e.1) (get_or-map (λ (q : Point). (q.number, q.vector.now)) points i p (0, []) h)
    ∙ ap (λ (q : Point). q.vector.now) (sym is)

pub is_in : (points : List Point) (i : ℕ) (p : Point) → T (is_sorted nat_cmp (entries_of points)) → i < length points → p ≡ get_or points i p → IsIn (entries_of points) p
is_in points i p sorted h is =
    let lt : i < length (entries_of points) = simp length-map h in
    ap (λ (a : ℕ). value_at nat_cmp a (entries_of points)) (sym (number_read points i p h is))
    ∙ value_at_place (entries_of points) i (rises_sorted (entries_of points) sorted) lt
    ∙ ap Some (vector_read points i p h is)

pub all_in : (points : List Point) → T (is_sorted nat_cmp (entries_of points)) → All (IsIn (entries_of points)) points
all_in points sorted k d h = is_in points k (get_or points k d) sorted h (get_or_default points k d (get_or points k d) h)

-- whether two points are near by their numbers is whether their vectors are close
pub near_by_vectors : (d : Density) (rows : Entries) (p q : Point) → IsIn rows p → IsIn rows q → is_near d rows p.number q.number ≡ is_close d.dist d.eps p.vector.now q
near_by_vectors d rows p q hp hq = rw (hp, hq) refl

-- as many numbers are near a point as points are close to it
near_length : (d : Density) (rows : Entries) (p : Point) → IsIn rows p → (qs : List Point) → All (IsIn rows) qs → length (filter (is_near d rows p.number) (numbers_of (entries_of qs))) ≡ length (filter (is_close d.dist d.eps p.vector.now) qs)
near_length d rows p hp [] all = refl
near_length d rows p hp (q ∷ qs) all =
    let here = near_by_vectors d rows p q hp (All-head (IsIn rows) q qs all) in
    let rest = near_length d rows p hp qs (All-tail (IsIn rows) q qs all) in
    ap (λ b. length (cond b (q.number ∷ filter (is_near d rows p.number) (numbers_of (entries_of qs))) (filter (is_near d rows p.number) (numbers_of (entries_of qs))))) here
    ∙ elim (is_close d.dist d.eps p.vector.now q) as (λ b. length (cond b (q.number ∷ filter (is_near d rows p.number) (numbers_of (entries_of qs))) (filter (is_near d rows p.number) (numbers_of (entries_of qs)))) ≡ length (cond b (q ∷ filter (is_close d.dist d.eps p.vector.now) qs) (filter (is_close d.dist d.eps p.vector.now) qs))) [
      | true ↦ ap suc rest
      | false ↦ rest
    ]

-- the size of a point is the count of the points close to it
pub size_by_vectors : (d : Density) (points : List Point) (p : Point) → T (is_sorted nat_cmp (entries_of points)) → IsIn (entries_of points) p → size_of d (entries_of points) p.number ≡ count_by (is_close d.dist d.eps p.vector.now) points
size_by_vectors d points p sorted h = near_length d (entries_of points) p h points (all_in points sorted) ∙ length-filter (is_close d.dist d.eps p.vector.now) points

-- whether a point is a core is whether enough points are close to it
pub core_by_count : (d : Density) (points : List Point) (i : ℕ) (p : Point) → T (is_sorted nat_cmp (entries_of points)) → i < length points → p ≡ get_or points i p → is_core_point d (entries_of points) p ≡ nat_le d.minpts (count_by (is_close d.dist d.eps p.vector.now) points)
core_by_count d points i p sorted h is =
    let rows = entries_of points in
    let lt : i < length (numbers_of rows) = simp length-map h in
    let member : Member p.number (numbers_of rows) = subst (λ (a : ℕ). Member a (numbers_of rows)) (number_read points i p h is) (member_at (numbers_of rows) i lt) in
    core_by_size d rows p.number member ∙ ap (nat_le d.minpts) (size_by_vectors d points p sorted (is_in points i p sorted h is))

-- and so where the sizes of all points are listed
pub core_by_size_at : (d : Density) (points : List Point) (sizes : List ℕ) (i : ℕ) (p : Point) → T (is_sorted nat_cmp (entries_of points)) → ArePointSizes d points sizes → i < length points → p ≡ get_or points i p → is_core_point d (entries_of points) p ≡ nat_le d.minpts (get_or sizes i 0)
core_by_size_at d points sizes i p sorted are h is = core_by_count d points i p sorted h is ∙ ap (nat_le d.minpts) (sym (are.each i p h is))

-- the cores so far, and one point more
pub filter_in : {X : Type 0} (test : X → Bool) (xs : List X) (i : ℕ) (x : X) → i < length xs → x ≡ get_or xs i x → test x ≡ true → filter test (take (i + 1) xs) ≡ filter test (take i xs) ++ x ∷ []
filter_in test xs i x h is passes = filter_more test xs i x h ∙ ap (λ y. filter test (take i xs) ++ cond (test y) (y ∷ []) []) (sym is) ∙ ap (λ b. filter test (take i xs) ++ cond b (x ∷ []) []) passes

append_nil : {X : Type 0} (xs : List X) → xs ++ [] ≡ xs
append_nil [] = refl
append_nil (x ∷ xs) = ap (λ ys. x ∷ ys) (append_nil xs)

pub filter_out : {X : Type 0} (test : X → Bool) (xs : List X) (i : ℕ) (x : X) → i < length xs → x ≡ get_or xs i x → test x ≡ false → filter test (take (i + 1) xs) ≡ filter test (take i xs)
filter_out test xs i x h is fails = filter_more test xs i x h ∙ ap (λ y. filter test (take i xs) ++ cond (test y) (y ∷ []) []) (sym is) ∙ ap (λ b. filter test (take i xs) ++ cond b (x ∷ []) []) fails ∙ append_nil _

-- the points are all records once none is left, and have their width
points_wide : (w : ℕ) (points : List Point) → IsWidth w → AreAll w (entries_of points) → (k : ℕ) (p : Point) → k < length points → IsOfWidth w (get_or points k p)
points_wide w [] lawful all k p h = absurd (omega arith)
points_wide w (q ∷ qs) lawful all zero p h = record { lawful = lawful; vector = all.0.vector }
points_wide w (q ∷ qs) lawful all (suc k) p h = points_wide w qs lawful all.1 k p (omega arith)

pub all_wide : (w : ℕ) (points : List Point) (left es : Entries) → IsWidth w → AreAll w es → entries_of points ++ left ≡ es → left ≡ [] → AreOfWidth w points
all_wide w points left es lawful all is none =
    let are : entries_of points ≡ es = sym (append_nil (entries_of points)) ∙ ap (λ (rest : Entries). entries_of points ++ rest) (sym none) ∙ is in
    points_wide w points lawful (subst (AreAll w) (sym are) all)

pub entries-append : (ps : List Point) (p : Point) → entries_of (ps ++ p ∷ []) ≡ entries_of ps ++ (p.number, p.vector.now) ∷ []
entries-append ps p = map-append _ ps (p ∷ [])

-- the numbers of the points that are cores are the cores
pub numbers_filtered : (d : Density) (rows : Entries) (points : List Point) → numbers_of (entries_of (filter (is_core_point d rows) points)) ≡ filter (is_core d rows) (numbers_of (entries_of points))
numbers_filtered d rows [] = refl
numbers_filtered d rows (p ∷ ps) =
    elim (is_core d rows p.number) as (λ b. numbers_of (entries_of (cond b (p ∷ filter (is_core_point d rows) ps) (filter (is_core_point d rows) ps))) ≡ cond b (p.number ∷ filter (is_core d rows) (numbers_of (entries_of ps))) (filter (is_core d rows) (numbers_of (entries_of ps)))) [
      | true ↦ ap (λ (xs : List ℕ). p.number ∷ xs) (numbers_filtered d rows ps)
      | false ↦ numbers_filtered d rows ps
    ]

-- the same at places of the list
pub near_at_places : (d : Density) (points : List Point) → T (is_sorted nat_cmp (entries_of points)) → (i j : ℕ) (p q : Point) → i < length points → j < length points →
    is_near d (entries_of points) (get_or (numbers_of (entries_of points)) i 0) (get_or (numbers_of (entries_of points)) j 0) ≡ nat_le (d.dist (get_or points i p).vector.now (get_or points j q).vector.now) d.eps
near_at_places d points sorted i j p q hi hj =
    let x = get_or points i p in
    let y = get_or points j q in
    let xi : x ≡ get_or points i x = get_or_default points i p x hi in
    let yj : y ≡ get_or points j y = get_or_default points j q y hj in
    ap (λ (a : ℕ). is_near d (entries_of points) a (get_or (numbers_of (entries_of points)) j 0)) (number_read points i x hi xi)
    ∙ ap (λ (b : ℕ). is_near d (entries_of points) x.number b) (number_read points j y hj yj)
    ∙ near_by_vectors d (entries_of points) x y (is_in points i x sorted hi xi) (is_in points j y sorted hj yj)

-- what a lawful distance says of vectors of one width it says of numbers: near is symmetric
value_vector : (w a : ℕ) (points : List Point) → AreOfWidth w points → IfSome (value_at nat_cmp a (entries_of points)) (λ v. IsWidth w × IsVector w v)
value_vector w a [] all = tt
value_vector w a (p ∷ ps) all =
    let here = All-head (IsOfWidth w) p ps all in
    elim (eq_by_cmp nat_cmp a p.number) as (λ b. IfSome (cond b (Some p.vector.now) (value_at nat_cmp a (entries_of ps))) (λ v. IsWidth w × IsVector w v)) [
      | true ↦ (here.lawful, here.vector)
      | false ↦ value_vector w a ps (All-tail (IsOfWidth w) p ps all)
    ]

module _ (d : Density) (w : ℕ) (symmetry : (u v : List ℕ) → IsWidth w → IsVector w u → IsVector w v → d.dist u v ≡ d.dist v u) where
  within_alike : (o p : Option (List ℕ)) → IfSome o (λ v. IsWidth w × IsVector w v) → IfSome p (λ v. IsWidth w × IsVector w v) → within d o p ≡ within d p o
  within_alike None None ho hp = refl
  within_alike None (Some v) ho hp = refl
  within_alike (Some u) None ho hp = refl
  within_alike (Some u) (Some v) ho hp = ap (λ n. nat_le n d.eps) (symmetry u v ho.0 ho.1 hp.1)

  pub near_alike : (points : List Point) → AreOfWidth w points → (a b : ℕ) → is_near d (entries_of points) a b ≡ is_near d (entries_of points) b a
  near_alike points all a b = within_alike _ _ (value_vector w a points all) (value_vector w b points all)
