-- What the promises say of the numbers handed in, from what is known of the sets made of them.
use Rattle.std.proofs.Common.{◌≡◌, ℕ, ◌+◌, ◌<◌, ◌≤◌, Bool, List, [], ◌∷◌, length, refl, sym, subst, ◌∙◌, inl, inr, sum_by, arith}
use Rattle.plain_dbscan.specs.Chains.{Joined}
use Rattle.plain_dbscan.proofs.Chains.{joined_on, joined_back}
use Rattle.label_book.specs.Labels.{IsMember}
use Rattle.label_book.proofs.Views.{no_value}
use Rattle.chain_growth.specs.Hops.{IsUnion, AreSeeds, IsGrown}
use Rattle.chain_growth.specs.inside.Lists.{In}
use Rattle.chain_growth.specs.inside.Work.{IsCounted}
use Rattle.chain_growth.proofs.Lists.{member_in}
use Rattle.chain_growth.proofs.Work.{bounded}
use Rattle.chain_growth.proofs.Views.{listed_in, union_as, seeds_as, grown_as}
use Rattle.split_expand.specs.Split.{AreSeeded, AreSplit, ArePaid, IsPaid, IsBounded, AreGroupsOf}
use Rattle.split_expand.specs.inside.Growing.{IsSetOf, HasSame}
use Rattle.split_expand.proofs.Parted.{each_once}

module _ (core : ℕ → Bool) (near : ℕ → ℕ → Bool) (former seeds members keys : List ℕ) (f : HasSame former members) (s : IsSetOf seeds keys) (h : AreSeeded core near former seeds) where
  pub union_in : IsUnion core near (In members)
  union_in = union_as core near (IsMember former) (In members) (λ a. (f a).1) (λ a. (f a).0) h.union

  pub seeds_in : AreSeeds core near (In members) (In keys)
  seeds_in = seeds_as core near (IsMember former) (In members) (IsMember seeds) (In keys) (λ a. (f a).1) (λ a. (f a).0) (λ a. (s.same a).1) (λ a. (s.same a).0) h.each

module _ (core : ℕ → Bool) (near : ℕ → ℕ → Bool) (cost : ℕ → ℕ) (former seeds members keys : List ℕ) (f : HasSame former members) (s : IsSetOf seeds keys) (P : ℕ → Type 0) (old new : ℕ) (h : IsCounted core near cost members keys P old new) where
  grown_in : (a : ℕ) → IsGrown core near (IsMember former) (IsMember seeds) a → IsGrown core near (In members) (In keys) a
  grown_in a g = grown_as core near (IsMember former) (In members) (IsMember seeds) (In keys) (λ b. (f b).1) (λ b. (s.same b).1) (λ b. (s.same b).0) a g

  grown_out : (a : ℕ) → IsGrown core near (In members) (In keys) a → IsGrown core near (IsMember former) (IsMember seeds) a
  grown_out a g = grown_as core near (In members) (IsMember former) (In keys) (IsMember seeds) (λ b. (f b).0) (λ b. (s.same b).0) (λ b. (s.same b).1) a g

  pub paid_of : ArePaid core near cost former seeds old new
  paid_of = record {
    asked = h.asked;
    once = each_once h.asked h.distinct;
    grown = λ a m. grown_out a (h.each a (listed_in h.asked a m)).0;
    count = h.count;
  }

  pub bounded_of : (all : List ℕ) → ((a : ℕ) → IsGrown core near (IsMember former) (IsMember seeds) a → IsMember all a) → new ≤ old + sum_by cost all
  bounded_of all has = bounded core near cost members keys P old new h all (λ a g. listed_in all a (has a (grown_out a g)))

module _ (core : ℕ → Bool) (near : ℕ → ℕ → Bool) (cost : ℕ → ℕ) (former seeds : List ℕ) (n : ℕ) where
  pub paid_none : IsPaid core near cost former seeds n n
  paid_none h = record { asked = []; once = λ i j c a b. absurd (no_value refl a); grown = λ a m. absurd (no_value refl m.1); count = omega arith }

  pub bounded_none : IsBounded core near cost former seeds n n
  bounded_none h all has = omega arith

pub no_groups : (former : List ℕ) → AreGroupsOf former []
no_groups former = record {
  members = λ a m. absurd (no_value refl m.1.1.0);
  some = λ j g e. absurd (no_value refl e);
  once = λ j g e. absurd (no_value refl e);
  apart = λ a m n. absurd (no_value refl m.1.1.0);
}

-- where a list has one number alone, all its members are that one
alone : (keys : List ℕ) (p q : ℕ) → length keys < 2 → In keys p → In keys q → p ≡ q
alone [] p q few m n = absurd (cc)
alone (x ∷ []) p q few m n = elim (member_in (x ∷ []) p m) [
  | inl e ↦ elim (member_in (x ∷ []) q n) [ inl e' ↦ e ∙ sym e' | inr none ↦ absurd none ]
  | inr none ↦ absurd none
]
alone (x ∷ y ∷ keys) p q few m n = absurd (omega arith)

-- with one seed all members are one class
pub one_class : (core : ℕ → Bool) (near : ℕ → ℕ → Bool) → ((a b : ℕ) → near a b ≡ near b a) → (former seeds keys : List ℕ) → IsSetOf seeds keys → length keys < 2
    → AreSeeded core near former seeds → AreSplit core near former []
one_class core near alike former seeds keys s few h = record {
  classes = λ j g e. absurd (no_value refl e);
  rest = λ a b fa fb oa ob.
      let p = h.each.each a fa in
      let q = h.each.each b fb in
      let same = alone keys q.0 p.0 few ((s.same q.0).1 q.1) ((s.same p.0).1 p.1) in
      joined_on core near a p.0 b p.2 (subst (λ (x : ℕ). Joined core near x b) same (joined_back core near alike b q.0 q.2));
}
