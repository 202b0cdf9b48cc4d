-- The labels of cores by the roots of their places, where near rows are joined.
use Rattle.std.proofs.Common.{◌≡◌, ℕ, zero, suc, ◌+◌, ◌<◌, ◌≤◌, Bool, true, false, cond, List, [], ◌∷◌, length, get_or, map, filter, nat_le, IsTrue, refl, sym, ap, subst, ◌∙◌, inl, inr, arith}
use lib.Dec.{T}
use Rattle.std.specs.Ordering.{nat_cmp}
use Rattle.std.specs.FinMap.Entries.{is_sorted}
use Rattle.std.specs.List.{range_with_len, AllByRecursion}
use Rattle.std.proofs.lemmas.Bool.{cases_eq}
use Rattle.std.proofs.lemmas.List.{length-map}
use Rattle.vec_record.specs.Vectors.{IsVector, IsWidth}
use Rattle.vec_record.specs.Table.{Table, row_at}
use Rattle.plain_dbscan.specs.declared.points.Point.{Point}
use Rattle.plain_dbscan.specs.Marks.{Density, numbers_of, is_near}
use Rattle.plain_dbscan.specs.Points.{entries_of, ArePacked, AreOfWidth}
use Rattle.plain_dbscan.specs.Merging.{AreLowered, AgreeBelow, AreLabels}
use Rattle.plain_dbscan.specs.inside.Roots.{near_before, roots_of, joined_each}
use Rattle.plain_dbscan.proofs.Chains.{Member}
use Rattle.plain_dbscan.proofs.Members.{member_filter}
use Rattle.plain_dbscan.proofs.CoresOf.{rises_sorted}
use Rattle.plain_dbscan.proofs.PointsOf.{near_at_places, near_alike}
use Rattle.plain_dbscan.proofs.SizesOf.{near_place}
use Rattle.plain_dbscan.proofs.Packed.{packed_length, row_of}
use Rattle.plain_dbscan.proofs.Merging.{NearTo, lowered_first, lowered_each, met_each, agree_each, agree_more, labels_are}

-- whether cores at two places are near is whether their rows are
pub near_packed : (d : Density) (points : List Point) (t : Table) → T (is_sorted nat_cmp (entries_of points)) → ArePacked points t → (i j : ℕ) → i < length points → j < length points →
    is_near d (entries_of points) (get_or (numbers_of (entries_of points)) i 0) (get_or (numbers_of (entries_of points)) j 0) ≡ near_place d.dist d.eps t i j
near_packed d [] t sorted packed i j hi hj = absurd (omega arith)
near_packed d (p ∷ ps) t sorted packed i j hi hj =
    near_at_places d (p ∷ ps) sorted i j p p hi hj
    ∙ ap (λ (v : List ℕ). nat_le (d.dist v (get_or (p ∷ ps) j p).vector.now) d.eps) (sym (row_of (p ∷ ps) t packed i p hi))
    ∙ ap (λ (v : List ℕ). nat_le (d.dist (row_at t i) v) d.eps) (sym (row_of (p ∷ ps) t packed j p hj))

member_range : (k a n : ℕ) → a ≤ k → k < a + n → Member k (range_with_len a n)
member_range k a zero le lt = absurd (omega arith)
member_range k a (suc n) le lt = elim (cases_eq k a) [
  | inl same ↦ inl same
  | inr other ↦ inr (member_range k (a + 1) n (omega (arith, other)) (omega arith))
]

-- what holds of the places of a range that pass holds of those that are kept
all_kept : (test : ℕ → Bool) (P : ℕ → Type 0) (a n m : ℕ) → a + n ≤ m → ((k : ℕ) → k < m → IsTrue (test k) → P k) → AllByRecursion P (filter test (range_with_len a n))
all_kept test P a zero m h each = tt
all_kept test P a (suc n) m h each =
    let rest = all_kept test P (a + 1) n m (omega arith) each in
    elim (test a) as (λ b. test a ≡ b → AllByRecursion P (cond b (a ∷ filter test (range_with_len (a + 1) n)) (filter test (range_with_len (a + 1) n)))) [
      | true ↦ λ e. (each a (omega arith) e, rest)
      | false ↦ λ e. rest
    ] refl

module _ (d : Density) (cores : List Point) (t : Table) (sorted : T (is_sorted nat_cmp (entries_of cores))) (packed : ArePacked cores t) (w : ℕ) (wide : AreOfWidth w cores)
    (symmetry : (u v : List ℕ) → IsWidth w → IsVector w u → IsVector w v → d.dist u v ≡ d.dist v u) where
  alike : (a b : ℕ) → is_near d (entries_of cores) a b ≡ is_near d (entries_of cores) b a
  alike = near_alike d w symmetry cores wide

  long : length (entries_of cores) ≡ length t.rows
  long = length-map cores _ ∙ sym (packed_length cores t packed)

  record Joined (n : ℕ) : Type 0 where
    pub lowered : AreLowered d (entries_of cores) (roots_of d.dist d.eps t n)
    pub agree : AgreeBelow d (entries_of cores) (roots_of d.dist d.eps t n) n

  near_to : (i : ℕ) → i < length t.rows → AllByRecursion (NearTo d (entries_of cores) alike i) (near_before d.dist d.eps t i)
  near_to i h = all_kept (near_place d.dist d.eps t i) (NearTo d (entries_of cores) alike i) 0 i (length t.rows) (omega arith) (λ k lt passes. (
    omega (arith, long, lt),
    near_packed d cores t sorted packed i k (omega (arith, h, packed_length cores t packed)) (omega (arith, lt, packed_length cores t packed)) ∙ passes,
  ))

  met : (i k : ℕ) → i < length t.rows → k < i → IsTrue (is_near d (entries_of cores) (get_or (numbers_of (entries_of cores)) i 0) (get_or (numbers_of (entries_of cores)) k 0)) → Member k (near_before d.dist d.eps t i)
  met i k h lt near =
      member_filter (near_place d.dist d.eps t i) (range_with_len 0 i) k (member_range k 0 i (omega arith) (omega arith))
      (sym (near_packed d cores t sorted packed i k (omega (arith, h, packed_length cores t packed)) (omega (arith, h, lt, packed_length cores t packed))) ∙ near)

  joined : (n : ℕ) → n ≤ length t.rows → Joined n
  joined zero h = record {
    lowered = subst (λ (m : ℕ). AreLowered d (entries_of cores) (range_with_len 0 m)) long (lowered_first d (entries_of cores));
    agree = λ i lt. absurd (omega arith);
  }
  joined (suc n) h =
      let before = joined n (omega arith) in
      let roots = roots_of d.dist d.eps t n in
      let js = near_before d.dist d.eps t n in
      let at : n < length t.rows = omega arith in
      let size : length roots ≡ length t.rows = before.lowered.lengths ∙ long in
      let next : n + 1 ≡ suc n = omega arith in
      record {
        lowered = lowered_each d (entries_of cores) alike n js roots (omega (arith, long, at)) (near_to n at) before.lowered;
        agree = subst (AgreeBelow d (entries_of cores) (joined_each n js roots)) next (agree_more d (entries_of cores) (joined_each n js roots) n
            (agree_each d (entries_of cores) alike n js roots n (omega (arith, size, at)) before.agree)
            (λ k lt near. met_each d (entries_of cores) alike n js k roots (omega (arith, size, at)) (omega (arith, size, at, lt)) (met n k at lt near)));
      }

  pub labels_by_roots : (labels : List ℕ) → labels ≡ map (λ (i : ℕ). get_or (numbers_of (entries_of cores)) i 0) (roots_of d.dist d.eps t (length t.rows)) → AreLabels d (entries_of cores) labels
  labels_by_roots labels are =
      let all = joined (length t.rows) (omega arith) in
      labels_are d (entries_of cores) alike (roots_of d.dist d.eps t (length t.rows)) all.lowered (rises_sorted (entries_of cores) sorted)
      (subst (AgreeBelow d (entries_of cores) (roots_of d.dist d.eps t (length t.rows))) (sym long) all.agree) labels are
