-- The computed label is the least core that a chain joins.
use Rattle.std.proofs.Common.{◌≡◌, ℕ, Bool, List, IsTrue, Option, sym, ap, subst, arith}
use Rattle.std.specs.Option.{unwrap_or}
use Rattle.plain_dbscan.specs.Chains.{IsLabel, is_joined, label_of}
use Rattle.plain_dbscan.proofs.Chains.{AreCores, joined_from_test, test_from_joined, joined_itself, joined_start, joined_end}
use Rattle.plain_dbscan.proofs.Members.{Rises, first_of}

-- a core has one label
pub one_label : (core : ℕ → Bool) (near : ℕ → ℕ → Bool) (a b c : ℕ) → IsLabel core near a b → IsLabel core near a c → b ≡ c
one_label core near a b c h k = omega (arith, h.least c k.joined, k.least b h.joined)

module _ (core : ℕ → Bool) (near : ℕ → ℕ → Bool) (cores : List ℕ) (are : AreCores core cores) (rises : Rises cores) where
  pub label_is : (a : ℕ) → IsTrue (core a) → IsLabel core near a (label_of core near cores a)
  label_is a h =
      let first = first_of (is_joined core near cores a) cores a rises (are.all a h) (test_from_joined core near cores are a a (joined_itself core near a h)) in
      let is : label_of core near cores a ≡ first.0 = ap (λ (o : Option ℕ). unwrap_or o 0) first.1.found in
      subst (λ (b : ℕ). IsLabel core near a b) (sym is) (record {
        joined = joined_from_test core near cores are a first.0 first.1.passes;
        least = λ c j. first.1.least c (are.all c (joined_end core near a c j)) (test_from_joined core near cores are a c j);
      })

  -- what is a label is the label
  pub label_of_is : (a b : ℕ) → IsLabel core near a b → label_of core near cores a ≡ b
  label_of_is a b h = one_label core near a _ b (label_is a (joined_start core near a b h.joined)) h
