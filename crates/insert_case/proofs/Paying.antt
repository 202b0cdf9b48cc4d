-- The queries at the records that became core cost no more than those at the new cores of the records.
use Rattle.std.proofs.Common.{◌≡◌, ℕ, ◌+◌, ◌≤◌, true, false, cond, not, eqb, List, [], ◌∷◌, IsTrue, unwrap_or, inl, inr, refl, sym, ap, subst, ◌∙◌, arith}
use Rattle.std.specs.Prelude.{sum_by}
use Rattle.std.proofs.lemmas.Bool.Decides.{nat_tests}
use Rattle.std.proofs.lemmas.List.Sums.{sum_by-cons}
use Rattle.std.specs.FinMap as map
use Rattle.vec_record.specs.Held.{Held}
use Rattle.plain_dbscan.specs.Marks.{Density, Entries, numbers_of, is_core}
use Rattle.plain_dbscan.specs.Asked.{is_new_core, new_cores}
use Rattle.plain_dbscan.proofs.Chains.{Member, both, first_of_both}
use Rattle.plain_dbscan.proofs.Members.{member_filter}
use Rattle.plain_dbscan.proofs.CoresOf.{among}
use Rattle.label_book.specs.Labels.{IsMember, EachOnce}
use Rattle.label_book.proofs.Added.{here}
use Rattle.update_seed.specs.Price.{QueryCost, cost_at, cost_of_all}
use Rattle.update_seed.proofs.Lists.{Apart, once_apart, from_member}
use Rattle.insert_case.specs.Inserted.{with_record, IsPaid}

-- a list without the first that is this number
without : ℕ → List ℕ → List ℕ
without x [] = []
without x (y ∷ ys) = cond (eqb x y) ys (y ∷ without x ys)

same_number : (x y : ℕ) → eqb x y ≡ true → x ≡ y
same_number x y h = grind (arith, nat_tests)

sum_without : (f : ℕ → ℕ) (x : ℕ) (ys : List ℕ) → Member x ys → f x + sum_by f (without x ys) ≡ sum_by f ys
unfolding without
sum_without f x [] m = absurd m
sum_without f x (y ∷ ys) m =
    elim (eqb x y) as (λ b. eqb x y ≡ b → f x + sum_by f (cond b ys (y ∷ without x ys)) ≡ sum_by f (y ∷ ys)) [
      | true ↦ λ e. let same : f x ≡ f y = ap f (same_number x y e) in omega (arith, sum_by-cons f y ys, same)
      | false ↦ λ e. elim m [
        | inl same ↦ let bad : eqb x y ≡ true = grind (arith, nat_tests) in let no_way : false ≡ true = sym e ∙ bad in absurd (cc)
        | inr later ↦ let r = sum_without f x ys later in omega (arith, sum_by-cons f y ys, sum_by-cons f y (without x ys), r)
      ]
    ] refl

still_member : (x q : ℕ) (ys : List ℕ) → (q ≡ x → ⊥) → Member q ys → Member q (without x ys)
unfolding without
still_member x q [] ne m = absurd m
still_member x q (y ∷ ys) ne m =
    elim (eqb x y) as (λ b. eqb x y ≡ b → Member q (cond b ys (y ∷ without x ys))) [
      | true ↦ λ e. elim m [ inl same ↦ absurd (ne (same ∙ sym (same_number x y e))) | inr later ↦ later ]
      | false ↦ λ e. elim m [ inl same ↦ inl same | inr later ↦ inr (still_member x q ys ne later) ]
    ] refl

-- fewer numbers, each once, sum up to no more
pub sum_fewer : (f : ℕ → ℕ) (xs ys : List ℕ) → Apart xs → ((q : ℕ) → Member q xs → Member q ys) → sum_by f xs ≤ sum_by f ys
sum_fewer f [] ys a all = omega arith
sum_fewer f (x ∷ xs) ys a all =
    let r = sum_fewer f xs (without x ys) a.1 (λ q m. still_member x q ys (λ e. a.0 (subst (λ z. Member z xs) e m)) (all q (inr m))) in
    let s = sum_without f x ys (all x (inl refl)) in
    omega (arith, sum_by-cons f x xs, r, s)

module _ (d : Density) (before after : Entries) (cores : List ℕ) (once : EachOnce cores) (are : (q : ℕ) → IsMember cores q → IsTrue (is_core d after q) × (is_core d before q ≡ false)) where
  among_new : (q : ℕ) → Member q cores → Member q (new_cores d before after)
  among_new q m =
      let h = are q (from_member cores q m) in
      member_filter (is_new_core d before after) (numbers_of after) q (among after q (first_of_both _ _ h.0)) (both (is_core d after q) (not (is_core d before q)) h.0 (ap not h.1))

  pub cores_cost : (cost : QueryCost) (new : Held) (eps : ℕ) → cost_of_all cost new eps cores ≤ cost_of_all cost new eps (new_cores d before after)
  cores_cost cost new eps = sum_fewer (cost_at cost new eps) cores (new_cores d before after) (once_apart cores once) among_new

pub own_cost : (cost : QueryCost) (records : Held) (p : ℕ) (v : List ℕ) (eps : ℕ) → cost_at cost (with_record records p v) eps p ≡ cost v eps
own_cost cost records p v eps = ap (λ o. cost (unwrap_or o []) eps) (here records.vectors p v)

-- what was paid by each step is at most the price
pub paid : (d : Density) (cost : QueryCost) (records : Held) (p : ℕ) (v : List ℕ) (s0 s1 s2 : ℕ) → s1 ≤ s0 + 16384 → s2 ≤ s1 + cost v d.eps → IsPaid d cost records p v s0 s2
paid d cost records p v s0 s1 s2 h k = let own = own_cost cost records p v d.eps in omega (arith, h, k, own)

pub paid_all : (d : Density) (cost : QueryCost) (records : Held) (p : ℕ) (v : List ℕ) (cores : List ℕ) (s0 s1 s2 s3 : ℕ) → s1 ≤ s0 + 16384 → s2 ≤ s1 + cost v d.eps
    → s3 ≤ s2 + cost_of_all cost (with_record records p v) d.eps cores
    → cost_of_all cost (with_record records p v) d.eps cores ≤ cost_of_all cost (with_record records p v) d.eps (new_cores d (map.entries records.vectors) (map.entries (map.insert records.vectors p v)))
    → IsPaid d cost records p v s0 s3
paid_all d cost records p v cores s0 s1 s2 s3 h k l all = let own = own_cost cost records p v d.eps in omega (arith, h, k, l, own, all)
