-- The numbers of the leaves within a radius, once they rise, are those that are near.
use Rattle.std.proofs.Common.{◌≡◌, ℕ, ◌<◌, ◌≤◌, true, false, cond, List, [], ◌∷◌, map, IsTrue, Some, refl, sym, ap, ◌∙◌, arith, inl, inr}
use Rattle.std.specs.Prelude.{nat_le, ◌==◌}
use Rattle.std.specs.List.Sorted.{IsNonDecreasing, IsPermutation}
use Rattle.std.specs.Option.{is_some}
use Rattle.std.specs.Ordering.{nat_cmp}
use Rattle.std.specs.Cmp.{nat_cmp_total}
use Rattle.std.specs.FinMap as map
use Rattle.std.specs.FinMap.Entries.{find}
use Rattle.std.proofs.lemmas.Bool.Decides.{leb_tells}
use Rattle.std.proofs.lemmas.List.Sums.{sum_by-cons, sum_by-append}
use Rattle.std.proofs.lemmas.List.Sorted.{sum_by-IsPermutation}
use Rattle.plain_dbscan.specs.Marks.{Density, density, numbers_of, within, is_near_vector}
use Rattle.plain_dbscan.specs.Index.{near}
use Rattle.plain_dbscan.proofs.Chains.{Member}
use Rattle.plain_dbscan.proofs.Members.{rises_filter, member_filter, passes_in}
use Rattle.plain_dbscan.proofs.CoresOf.{rises_sorted, among}
use Rattle.mtree_node.specs.declared.node.LeafEntry.{LeafEntry}
use Rattle.mtree_node.specs.Tree.{record_of, AreDistinct}
use Rattle.mtree_index.specs.Found.{number_within, numbers_within}
use Rattle.mtree_index.proofs.Distinct.{under, at, none_total, some_total, none_or_some}
use Rattle.mtree_index.proofs.Rising.{times, member_times, times_member, rises_once, rising_same}
use Rattle.mtree_index.proofs.Totals.{total, total-cons}

module _ (dist : List ℕ → List ℕ → ℕ) (q : List ℕ) (r : ℕ) where
  -- 1 for a vector within the radius
  abbrev inside : List ℕ → ℕ
  inside v = cond (nat_le (dist q v) r) 1 0

  times_one : (y : ℕ) (e : LeafEntry) → times y (number_within dist q r e) ≡ under y inside e.number e.vector
  times_one y e =
      elim (leb_tells (dist q e.vector) r) [
        | inl t ↦ rw t.0 (sum_by-cons (λ (x : ℕ). cond (x == y) 1 0) e.number [] ∙ omega arith)
        | inr f ↦ rw f.0 (elim (e.number == y) as (λ b. ◌≡◌ {A = ℕ} 0 (cond b 0 0)) [ true ↦ refl | false ↦ refl ])
      ]

  times_within : (y : ℕ) (es : List LeafEntry) → times y (numbers_within dist q r es) ≡ total (under y inside) es
  times_within y [] = refl
  times_within y (e ∷ es) =
      sum_by-append (λ (x : ℕ). cond (x == y) 1 0) (number_within dist q r e) (numbers_within dist q r es)
      ∙ omega (arith, times_one y e, times_within y es, total-cons (under y inside) e es)

  inside_one : (v : List ℕ) → inside v ≤ 1
  inside_one v = elim (nat_le (dist q v) r) as (λ b. cond b 1 0 ≤ 1) [ true ↦ omega arith | false ↦ omega arith ]

  inside_true : (v : List ℕ) → 0 < inside v → IsTrue (nat_le (dist q v) r)
  inside_true v l = elim (leb_tells (dist q v) r) [ inl t ↦ t.0 | inr f ↦ absurd (let h : ◌<◌ 0 0 = rw f.0 at l in omega (arith, h)) ]

  true_inside : (v : List ℕ) → IsTrue (nat_le (dist q v) r) → 0 < inside v
  true_inside v t = rw t (omega arith)

  module _ (es : List LeafEntry) (distinct : AreDistinct es) where
    rows : map.FinMap nat_cmp (List ℕ)
    rows = map.from_entries (map record_of es)

    abbrev D : Density
    D = density dist r 1

    once : (y : ℕ) → times y (numbers_within dist q r es) ≤ 1
    once y = elim (none_or_some y es) [
      | inl nothing ↦ omega (arith, times_within y es, none_total y inside es nothing)
      | inr some ↦ omega (arith, times_within y es, some_total y inside es some.0 (distinct y) some.1, inside_one some.0)
    ]

    value_is : (y : ℕ) → find nat_cmp y (map.entries rows) ≡ at y es
    unfolding rows
    value_is y = sym (map.get-entries rows y) ∙ map.get-from_entries nat_cmp_total (map record_of es) y

    near_inside : (y : ℕ) → Member y (numbers_within dist q r es) → Member y (near dist rows q r)
    near_inside y m =
        let some_times = member_times y (numbers_within dist q r es) m in
        elim (none_or_some y es) [
          | inl nothing ↦ absurd (omega (arith, some_times, times_within y es, none_total y inside es nothing))
          | inr some ↦
              let value : find nat_cmp y (map.entries rows) ≡ Some some.0 = value_is y ∙ some.1 in
              let passes : IsTrue (is_near_vector D (map.entries rows) q y) = ap (within D (Some q)) value ∙ inside_true some.0 (omega (arith, some_times, times_within y es, some_total y inside es some.0 (distinct y) some.1)) in
              member_filter (is_near_vector D (map.entries rows) q) (numbers_of (map.entries rows)) y (among (map.entries rows) y (ap is_some value)) passes
        ]

    inside_near : (y : ℕ) → Member y (near dist rows q r) → Member y (numbers_within dist q r es)
    inside_near y m =
        let p = passes_in (is_near_vector D (map.entries rows) q) (numbers_of (map.entries rows)) y m in
        elim (none_or_some y es) [
          | inl nothing ↦ absurd (let wrong : false ≡ true = sym (ap (within D (Some q)) (value_is y ∙ nothing)) ∙ p.passes in cc)
          | inr some ↦
              let true_there : IsTrue (nat_le (dist q some.0) r) = sym (ap (within D (Some q)) (value_is y ∙ some.1)) ∙ p.passes in
              times_member y (numbers_within dist q r es) (omega (arith, times_within y es, some_total y inside es some.0 (distinct y) some.1, true_inside some.0 true_there))
        ]

    times_same : (y : ℕ) (sorted : List ℕ) → IsPermutation (numbers_within dist q r es) sorted → times y sorted ≡ times y (numbers_within dist q r es)
    times_same y sorted p = sum_by-IsPermutation (λ (x : ℕ). cond (x == y) 1 0) (numbers_within dist q r es) sorted p

    -- the numbers in order are exactly those near
    pub sorted_near : (sorted : List ℕ) → IsPermutation (numbers_within dist q r es) sorted → IsNonDecreasing sorted → sorted ≡ near dist (map.from_entries (map record_of es)) q r
    unfolding rows
    sorted_near sorted p up =
        rising_same sorted (near dist rows q r) (rises_once sorted up (λ y. omega (arith, times_same y sorted p, once y)))
        (rises_filter (is_near_vector D (map.entries rows) q) (numbers_of (map.entries rows)) (rises_sorted (map.entries rows) (map.entries_sorted rows)))
        (λ y m. near_inside y (times_member y (numbers_within dist q r es) (omega (arith, times_same y sorted p, member_times y sorted m))))
        (λ y m. times_member y sorted (omega (arith, times_same y sorted p, member_times y (numbers_within dist q r es) (inside_near y m))))
