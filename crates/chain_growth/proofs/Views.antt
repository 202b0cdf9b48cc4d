-- Members of lists by place and by test, and the same said of either.
use Rattle.std.proofs.Common.{◌≡◌, ℕ, zero, suc, ◌≤◌, Bool, List, [], ◌∷◌, IsTrue, refl, sym, ap, subst, Some, inl, inr, slice_get}
use Rattle.plain_dbscan.specs.Chains.{Joined}
use Rattle.plain_dbscan.proofs.Chains.{Member}
use Rattle.label_book.specs.Labels.{IsMember}
use Rattle.label_book.proofs.Views.{same_value, no_value}
use Rattle.chain_growth.specs.Hops.{IsHops, IsUnion, AreSeeds, IsLastSeed, IsFarthest, IsGrown}
use Rattle.chain_growth.specs.inside.Lists.{In}
use Rattle.chain_growth.proofs.Lists.{in_member, member_in}

head_or : (x : ℕ) (xs : List ℕ) (q : ℕ) → ((j : ℕ) → slice_get xs j ≡ Some q → Member q xs) → (i : ℕ) → slice_get (x ∷ xs) i ≡ Some q → Member q (x ∷ xs)
head_or x xs q rest zero e = inl (sym (same_value refl e))
head_or x xs q rest (suc i) e = inr (rest i e)

at_member : (xs : List ℕ) (q i : ℕ) → slice_get xs i ≡ Some q → Member q xs
at_member [] q i e = absurd (no_value refl e)
at_member (x ∷ xs) q i e = head_or x xs q (at_member xs q) i e

from_member : (xs : List ℕ) (q : ℕ) → Member q xs → IsMember xs q
from_member [] q m = absurd m
from_member (x ∷ xs) q (inl e) = (0, ap (λ n. Some n) (sym e))
from_member (x ∷ xs) q (inr m) = let r = from_member xs q m in (suc r.0, r.1)

pub listed_in : (xs : List ℕ) (q : ℕ) → IsMember xs q → In xs q
listed_in xs q m = in_member xs q (at_member xs q m.0 m.1)

pub in_listed : (xs : List ℕ) (q : ℕ) → In xs q → IsMember xs q
in_listed xs q h = from_member xs q (member_in xs q h)

module _ (core : ℕ → Bool) (near : ℕ → ℕ → Bool) where
  pub union_as : (F G : ℕ → Type 0) → ((a : ℕ) → F a → G a) → ((a : ℕ) → G a → F a) → IsUnion core near F → IsUnion core near G
  union_as F G to back h = record { cores = λ a m. h.cores a (back a m); whole = λ a b m j. to b (h.whole a b (back a m) j) }

  pub seeds_as : (F G S T : ℕ → Type 0) → ((a : ℕ) → F a → G a) → ((a : ℕ) → G a → F a) → ((a : ℕ) → S a → T a) → ((a : ℕ) → T a → S a) → AreSeeds core near F S → AreSeeds core near G T
  seeds_as F G S T to back on off h = record {
    members = λ q m. to q (h.members q (off q m));
    each = λ a m. let q = h.each a (back a m) in (q.0, on q.0 q.1, q.2);
  }

  pub last_as : (S T : ℕ → Type 0) → ((a : ℕ) → S a → T a) → ((a : ℕ) → T a → S a) → (s : ℕ) → IsLastSeed core near S s → IsLastSeed core near T s
  last_as S T on off s h = record {
    seed = on s h.seed;
    least = λ q m. h.least q (off q m);
    last = λ q m. let r = h.last q (off q m) in (r.0, on r.0 r.1, r.2, r.3);
  }

  pub far_as : (S T : ℕ → Type 0) → ((a : ℕ) → S a → T a) → ((a : ℕ) → T a → S a) → (s e : ℕ) → IsFarthest core near S s e → IsFarthest core near T s e
  far_as S T on off s e h = record { seed = h.seed; is_seed = on h.seed h.is_seed; hops = h.hops; greatest = λ q n m. h.greatest q n (off q m) }

  pub grown_as : (F G S T : ℕ → Type 0) → ((a : ℕ) → F a → G a) → ((a : ℕ) → S a → T a) → ((a : ℕ) → T a → S a) → (a : ℕ) → IsGrown core near F S a → IsGrown core near G T a
  grown_as F G S T to on off a h = record { member = to a h.member; fewer = λ s e last far. h.fewer s e (last_as T S off on s last) (far_as T S off on s e far) }
