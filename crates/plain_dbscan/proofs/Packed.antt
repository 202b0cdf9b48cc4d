-- Points packed in a block: what a scan over its rows counts.
use Rattle.std.proofs.Common.{◌≡◌, ℕ, suc, ◌+◌, ◌-◌, ◌<◌, ◌≤◌, Bool, cond, List, [], ◌∷◌, ◌++◌, length, length-append, get_or, take, drop, map, filter, count_by, refl, sym, ap, ◌∙◌, arith, nat_le}
use Rattle.std.specs.List.{range_with_len}
use Rattle.std.proofs.lemmas.List.{get_or-map, length-map, length-take-le}
use Rattle.std.proofs.Math.Seq.{take-append_seam}
use Rattle.std.proofs.lemmas.List.Sums.{length-filter, sum_by-cons}
use Rattle.vec_record.specs.Table.{Table, row_at}
use Rattle.plain_dbscan.specs.declared.points.Point.{Point}
use Rattle.plain_dbscan.specs.Marks.{Density}
use Rattle.plain_dbscan.specs.Points.{ArePacked, ArePointSizes, is_close, is_near_row}
use Rattle.plain_dbscan.specs.inside.Sizes.{AreSizes}

-- a count over the places from a on is one over the elements there
pub count_at : {X : Type 0} (p : X → Bool) (d : X) (xs : List X) (a : ℕ) (ys : List X) → ((i : ℕ) → i < length ys → get_or xs (a + i) d ≡ get_or ys i d) → count_by (λ i. p (get_or xs i d)) (range_with_len a (length ys)) ≡ count_by p ys
count_at p d xs a [] same = refl
count_at p d xs a (y ∷ ys) same =
    let start : a ≡ a + 0 = omega arith in
    let here : get_or xs a d ≡ y = ap (λ k. get_or xs k d) start ∙ same 0 (omega arith) in
    let equal : ◌≡◌ {A = ℕ} (cond (p (get_or xs a d)) 1 0) (cond (p y) 1 0) = ap (λ z. cond (p z) 1 0) here in
    let next = count_at p d xs (a + 1) ys (λ i h. let on : a + 1 + i ≡ a + suc i = omega arith in ap (λ k. get_or xs k d) on ∙ same (suc i) (omega (arith, h))) in
    omega (arith, sum_by-cons (λ i. cond (p (get_or xs i d)) 1 0) a (range_with_len (a + 1) (length ys)), sum_by-cons (λ z. cond (p z) 1 0) y ys, equal, next)

-- as many places of the rows are near a vector as rows are
pub count_rows : (dist : List ℕ → List ℕ → ℕ) (eps : ℕ) (v : List ℕ) (t : Table) (n : ℕ) → n ≡ length t.rows →
    length (filter (λ place. nat_le (dist v (row_at t place)) eps) (range_with_len 0 (n - 0))) ≡ count_by (is_near_row dist eps v) t.rows
count_rows dist eps v t n is =
    let all : n - 0 ≡ length t.rows = omega (arith, is) in
    length-filter (λ place. nat_le (dist v (row_at t place)) eps) (range_with_len 0 (n - 0))
    ∙ ap (λ k. count_by (λ place. nat_le (dist v (row_at t place)) eps) (range_with_len 0 k)) all
    ∙ count_at (is_near_row dist eps v) [] t.rows 0 t.rows (λ i h. let on : 0 + i ≡ i = omega arith in ap (λ k. get_or t.rows k []) on)

pub count_map : {X Y : Type 0} (p : Y → Bool) (f : X → Y) (xs : List X) → count_by p (map f xs) ≡ count_by (λ x. p (f x)) xs
count_map p f [] = refl
count_map p f (x ∷ xs) = omega (arith, sum_by-cons (λ y. cond (p y) 1 0) (f x) (map f xs), sum_by-cons (λ z. cond (p (f z)) 1 0) x xs, count_map p f xs)

pub packed_length : (points : List Point) (t : Table) → ArePacked points t → length t.rows ≡ length points
packed_length points t packed = ap length packed.rows ∙ length-map points (λ (p : Point). p.vector.now)

-- and as many as points are close to it
pub count_packed : (dist : List ℕ → List ℕ → ℕ) (eps : ℕ) (v : List ℕ) (points : List Point) (t : Table) → ArePacked points t → count_by (is_near_row dist eps v) t.rows ≡ count_by (is_close dist eps v) points
count_packed dist eps v points t packed =
    ap (count_by (is_near_row dist eps v)) packed.rows ∙ count_map (is_near_row dist eps v) (λ (p : Point). p.vector.now) points

-- the row of a point at a place
pub row_of : (points : List Point) (t : Table) → ArePacked points t → (k : ℕ) (p : Point) → k < length points → row_at t k ≡ (get_or points k p).vector.now
row_of points t packed k p h =
    ap (λ (rows : List (List ℕ)). get_or rows k []) packed.rows ∙ get_or-map (λ (q : Point). q.vector.now) points k p [] h

-- the sizes of the rows are those of the points
pub point_sizes : (d : Density) (points : List Point) (t : Table) (sizes : List ℕ) → ArePacked points t → AreSizes d.dist d.eps t sizes → ArePointSizes d points sizes
point_sizes d points t sizes packed are = record {
  lengths = are.lengths ∙ packed_length points t packed;
  each = λ i p h is.
      are.each i (omega (arith, h, packed_length points t packed))
      ∙ ap (λ (v : List ℕ). count_by (is_near_row d.dist d.eps v) t.rows) (row_of points t packed i p h ∙ ap (λ (q : Point). q.vector.now) (sym is))
      ∙ count_packed d.dist d.eps p.vector.now points t packed;
}

-- the room for places stays as long as it was
pub room_kept : (len n : ℕ) (now before : List ℕ) → len ≡ n → length now ≡ n → length (take len (now ++ drop (length now) before)) ≡ n
room_kept len n now before is long =
    let fits : len ≤ length (now ++ drop (length now) before) = omega (arith, length-append now (drop (length now) before), is, long) in
    length-take-le len (now ++ drop (length now) before) fits ∙ is

-- and what was written over the whole of a list is the list
pub list_kept : (len : ℕ) (now before : List ℕ) → len ≡ length now → take len (now ++ drop (length now) before) ≡ now
list_kept len now before is = ap (λ (n : ℕ). take n (now ++ drop (length now) before)) is ∙ take-append_seam now (drop (length now) before)
