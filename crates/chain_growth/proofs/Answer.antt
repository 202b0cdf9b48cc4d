-- What the complete groups and the seeds outside them say of the whole.
use Rattle.std.proofs.Common.{◌≡◌, ℕ, zero, suc, ◌+◌, ◌<◌, Bool, false, List, [], ◌∷◌, ◌++◌, length, get_or, take, drop, ◌-◌, IsTrue, sym, ap, subst, ◌∙◌, inl, inr, arith, length-append}
use Rattle.std.proofs.lemmas.Bool.{cases_lt}
use Rattle.std.specs.List.Sorted.{IsNonDecreasing}
use Rattle.plain_dbscan.specs.Chains.{Joined}
use Rattle.plain_dbscan.proofs.Chains.{joined_on, joined_back, joined_itself}
use Rattle.plain_dbscan.proofs.Members.{place_of, member_at}
use Rattle.chain_growth.specs.Hops.{IsHops, IsUnion, AreSeeds, IsLastSeed, IsFarthest, IsGrown}
use Rattle.chain_growth.specs.inside.Lists.{is_in, In, Distinct, missing, flat, with_one, IsLonger}
use Rattle.chain_growth.specs.inside.Work.{reach_in, IsClassOf, AreClasses, IsCut, IsCounted, IsDone, IsNext, IsGroup, Enters, EntersNear}
use Rattle.chain_growth.proofs.Lists.{get_front, in_member, member_in, in_front, in_back, in_cases, out_of, is_out, out_both, out_front, out_back, in_itself, in_one, distinct_append, distinct_back, distinct_push, distinct_places, sum_inside, length_inside, missing_in, missing_out, missing_nil, IsMissing, missing_some, missing_none, flat_push}
use Rattle.chain_growth.proofs.Work.{counted_both}

module _ (core : ℕ → Bool) (near : ℕ → ℕ → Bool) (seeds : List ℕ) where
  pub closed_flat : (gs : List (List ℕ)) → AreClasses core near seeds gs → IsDone core near (flat gs)
  closed_flat [] h a b m j = absurd (cc)
  closed_flat (g ∷ gs) h a b m j = elim (in_cases g (flat gs) a m) [
    | inl here ↦ in_front g (flat gs) b (h.0.2.all b (joined_on core near h.0.0 a b (h.0.2.joined a here) j))
    | inr later ↦ in_back g (flat gs) b (closed_flat gs h.1 a b later j)
  ]

  pub classes_push : (gs : List (List ℕ)) (g : List ℕ) (s : ℕ) → AreClasses core near seeds gs → In seeds s → IsClassOf core near s g → AreClasses core near seeds (gs ++ g ∷ [])
  classes_push [] g s h m c = ((s, m, c), tt)
  classes_push (x ∷ gs) g s h m c = (h.0, classes_push gs g s h.1 m c)

  -- the first seed outside what is done is the next
  pub next_of : (done : List ℕ) (k : ℕ) → IsDone core near done → IsNonDecreasing seeds → k < length seeds → ((j : ℕ) → j < k → IsTrue (is_in done (get_or seeds j 0))) → is_in done (get_or seeds k 0) ≡ false
      → IsNext core near seeds done (get_or seeds k 0)
  next_of done k closed rising lt before out = record {
    closed = closed;
    seed = in_member seeds _ (member_at seeds k lt);
    out = out;
    least = λ r m o.
        let p = place_of seeds r (member_in seeds r m) in
        elim (cases_lt p.0 k) [
          | inl sooner ↦ absurd (out_of _ o (subst (λ (x : ℕ). In done x) p.1.is (before p.0 sooner)))
          | inr later ↦ omega (arith, rising k p.0 0 later p.1.below, p.1.is)
        ];
  }

  module _ (alike : (a b : ℕ) → near a b ≡ near b a) (former : List ℕ) (union : IsUnion core near (In former)) (are : AreSeeds core near (In former) (In seeds)) where
    module _ (gs : List (List ℕ)) (classes : AreClasses core near seeds gs) (once : Distinct (flat gs)) where
      -- all seeds outside the groups are joined with one: so are all members outside
      pub split_early : (s : ℕ) → ((q : ℕ) → In seeds q → is_in (flat gs) q ≡ false → Joined core near s q) → IsCut core near former seeds gs
      split_early s one = record {
        classes = classes;
        once = once;
        rest = λ a b fa fb oa ob. joined_on core near a s b (joined_back core near alike s a (from a fa oa)) (from b fb ob);
      }
        where
          from : (a : ℕ) → In former a → is_in (flat gs) a ≡ false → Joined core near s a
          from a fa oa =
              let q = are.each a fa in
              let back = joined_back core near alike a q.0 q.2 in
              joined_on core near s q.0 a (one q.0 q.1 (is_out _ (λ m. out_of _ oa (closed_flat gs classes q.0 a m back)))) back

      -- no seed is outside the groups: no member is
      pub split_all : ((q : ℕ) → In seeds q → In (flat gs) q) → IsCut core near former seeds gs
      split_all all = record {
        classes = classes;
        once = once;
        rest = λ a b fa fb oa ob.
            let q = are.each a fa in
            absurd (out_of _ oa (closed_flat gs classes q.0 a (all q.0 q.1) (joined_back core near alike a q.0 q.2)));
      }

pub drop_past : (xs ys : List ℕ) (n : ℕ) → n ≡ length xs → drop n (xs ++ ys) ≡ ys
drop_past [] ys n h = ap (λ (k : ℕ). drop k ys) h
drop_past (x ∷ xs) ys zero h = absurd (omega arith)
drop_past (x ∷ xs) ys (suc n) h = drop_past xs ys n (omega arith)

module _ (core : ℕ → Bool) (near : ℕ → ℕ → Bool) (alike : (a b : ℕ) → near a b ≡ near b a) (cost : ℕ → ℕ) (former seeds : List ℕ) (union : IsUnion core near (In former)) (are : AreSeeds core near (In former) (In seeds)) (done : List ℕ) (s : ℕ) (next : IsNext core near seeds done s) (old now new : ℕ)
    (before : IsCounted core near cost former seeds (λ a. In done a) old now) (then : IsCounted core near cost former seeds (Joined core near s) now new) where
  -- what was asked before is no member of the class that grows
  apart : (x : ℕ) → In done x → Joined core near s x → ⊥
  apart x m j = out_of _ next.out (next.closed x s m (joined_back core near alike s x j))

  pub counted_any : IsCounted core near cost former seeds (λ (x : ℕ). Unit {0}) old new
  counted_any = counted_both core near cost former seeds (λ a. In done a) (Joined core near s) (λ (x : ℕ). Unit {0}) old now new before then apart (λ x m. tt) (λ x j. tt)

  pub counted_then_in : (keys : List ℕ) → IsGroup core near s done keys → IsCounted core near cost former seeds (λ a. In keys a) old new
  counted_then_in keys g =
      counted_both core near cost former seeds (λ a. In done a) (Joined core near s) (λ a. In keys a) old now new before then apart
      (λ x m. subst (λ (xs : List ℕ). In xs x) (sym g.is) (in_front done g.group x m))
      (λ x j. subst (λ (xs : List ℕ). In xs x) (sym g.is) (in_back done g.group x (g.is_class.all x j)))

-- a seed that is in already
pub before_there : (seeds keys : List ℕ) (k : ℕ) → IsTrue (is_in keys (get_or seeds k 0)) → ((j : ℕ) → j < k → IsTrue (is_in keys (get_or seeds j 0))) → (j : ℕ) → j < k + 1 → IsTrue (is_in keys (get_or seeds j 0))
before_there seeds keys k here sooner j lt = elim (cases_lt j k) [
  | inl less ↦ sooner j less
  | inr same ↦ subst (λ (i : ℕ). IsTrue (is_in keys (get_or seeds i 0))) {x = k} {y = j} (omega arith) here
]
