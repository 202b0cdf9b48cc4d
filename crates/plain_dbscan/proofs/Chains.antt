-- What chains join: they go on, turn round and grow with the cores; and the test by way of a list finds them.
use Rattle.std.proofs.Common.{◌≡◌, ℕ, Bool, true, false, List, [], ◌∷◌, ◌++◌, eqb, ◌&&◌, ◌||◌, IsTrue, refl, sym, subst, ◌∙◌, inl, inr, ◌⊎◌, arith}
use Rattle.std.proofs.lemmas.Bool.Decides.{nat_tests}
use Rattle.plain_dbscan.specs.Chains.{IsChain, Joined, IsLabel, reaches, is_joined}

pub both : (p q : Bool) → IsTrue p → IsTrue q → IsTrue (p && q)
both true q h k = k
both false q h k = h

pub first_of_both : (p q : Bool) → IsTrue (p && q) → IsTrue p
first_of_both true q h = refl
first_of_both false q h = h

pub second_of_both : (p q : Bool) → IsTrue (p && q) → IsTrue q
second_of_both true q h = h
second_of_both false q h = absurd (cc)

pub either : (p q : Bool) → IsTrue (p || q) → IsTrue p ⊎ IsTrue q
either true q h = inl refl
either false q h = inr h

pub left_or : (p q : Bool) → IsTrue p → IsTrue (p || q)
left_or true q h = refl
left_or false q h = absurd (cc)

pub right_or : (p q : Bool) → IsTrue q → IsTrue (p || q)
right_or true q h = refl
right_or false q h = h

-- membership by recursion
abbrev pub Member : ℕ → List ℕ → Type 0
Member x [] = ⊥
Member x (y ∷ ys) = (x ≡ y) ⊎ Member x ys

module _ (core : ℕ → Bool) (near : ℕ → ℕ → Bool) where
  pub chain_start : (a : ℕ) (steps : List ℕ) (b : ℕ) → IsChain core near a steps b → IsTrue (core a)
  chain_start a [] b h = h.0
  chain_start a (c ∷ rest) b h = h.0

  chain_end : (a : ℕ) (steps : List ℕ) (b : ℕ) → IsChain core near a steps b → IsTrue (core b)
  chain_end a [] b h = subst (λ (x : ℕ). IsTrue (core x)) h.1 h.0
  chain_end a (c ∷ rest) b h = chain_end c rest b h.2

  pub chain-append : (a : ℕ) (s : List ℕ) (b : ℕ) (t : List ℕ) (c : ℕ) → IsChain core near a s b → IsChain core near b t c → IsChain core near a (s ++ t) c
  chain-append a [] b t c h k = subst (λ (x : ℕ). IsChain core near x t c) (sym h.1) k
  chain-append a (d ∷ s) b t c h k = (h.0, h.1, chain-append d s b t c h.2 k)

  pub joined_start : (a b : ℕ) → Joined core near a b → IsTrue (core a)
  joined_start a b j = chain_start a j.steps b j.chain

  pub joined_end : (a b : ℕ) → Joined core near a b → IsTrue (core b)
  joined_end a b j = chain_end a j.steps b j.chain

  pub joined_itself : (a : ℕ) → IsTrue (core a) → Joined core near a a
  joined_itself a h = record { steps = []; chain = (h, refl) }

  pub joined_near : (a b : ℕ) → IsTrue (core a) → IsTrue (core b) → IsTrue (near a b) → Joined core near a b
  joined_near a b h k n = record { steps = b ∷ []; chain = (h, n, (k, refl)) }

  pub joined_on : (a b c : ℕ) → Joined core near a b → Joined core near b c → Joined core near a c
  joined_on a b c j k = record { steps = j.steps ++ k.steps; chain = chain-append a j.steps b k.steps c j.chain k.chain }

  module _ (alike : (a b : ℕ) → near a b ≡ near b a) where
    turned : (a : ℕ) (s : List ℕ) (b : ℕ) → IsChain core near a s b → Joined core near b a
    turned a [] b h = record { steps = []; chain = (subst (λ (x : ℕ). IsTrue (core x)) h.1 h.0, sym h.1) }
    turned a (c ∷ s) b h = joined_on b c a (turned c s b h.2) (joined_near c a (chain_start c s b h.2) h.0 (sym (alike a c) ∙ h.1))

    pub joined_back : (a b : ℕ) → Joined core near a b → Joined core near b a
    joined_back a b j = turned a j.steps b j.chain

  -- a step of the test by way of a list leads along a chain
  pub joined_from_reaches : (cs : List ℕ) → ((c : ℕ) → Member c cs → IsTrue (core c)) → (a b : ℕ) → IsTrue (core a) → IsTrue (core b) → IsTrue (reaches near cs a b) → Joined core near a b
  joined_from_reaches [] all a b h k r = elim (either (eqb a b) (near a b) r) [
    | inl same ↦ let e : a ≡ b = grind (arith, nat_tests) in subst (λ (x : ℕ). Joined core near a x) e (joined_itself a h)
    | inr n ↦ joined_near a b h k n
  ]
  joined_from_reaches (c ∷ cs) all a b h k r =
      let rest : (x : ℕ) → Member x cs → IsTrue (core x) = λ x m. all x (inr m) in
      let here : IsTrue (core c) = all c (inl refl) in
      elim (either (reaches near cs a b) (reaches near cs a c && reaches near cs c b) r) [
        | inl direct ↦ joined_from_reaches cs rest a b h k direct
        | inr by_c ↦ joined_on a c b
            (joined_from_reaches cs rest a c h here (first_of_both (reaches near cs a c) (reaches near cs c b) by_c))
            (joined_from_reaches cs rest c b here k (second_of_both (reaches near cs a c) (reaches near cs c b) by_c))
      ]

-- more numbers to go by reach no less
reaches_near : (near : ℕ → ℕ → Bool) (cs : List ℕ) (a b : ℕ) → IsTrue (near a b) → IsTrue (reaches near cs a b)
reaches_near near [] a b n = right_or (eqb a b) (near a b) n
reaches_near near (c ∷ cs) a b n = left_or (reaches near cs a b) _ (reaches_near near cs a b n)

reaches_itself : (near : ℕ → ℕ → Bool) (cs : List ℕ) (a : ℕ) → IsTrue (reaches near cs a a)
reaches_itself near [] a = left_or (eqb a a) (near a a) (grind (arith, nat_tests))
reaches_itself near (c ∷ cs) a = left_or (reaches near cs a a) _ (reaches_itself near cs a)

-- to come to d by way of d, and to go on from it, takes no way by d
to_itself : (near : ℕ → ℕ → Bool) (ds : List ℕ) (d a : ℕ) → IsTrue (reaches near (d ∷ ds) a d) → IsTrue (reaches near ds a d)
to_itself near ds d a h = elim (either (reaches near ds a d) _ h) [ inl direct ↦ direct | inr by_d ↦ first_of_both (reaches near ds a d) (reaches near ds d d) by_d ]

from_itself : (near : ℕ → ℕ → Bool) (ds : List ℕ) (d b : ℕ) → IsTrue (reaches near (d ∷ ds) d b) → IsTrue (reaches near ds d b)
from_itself near ds d b h = elim (either (reaches near ds d b) _ h) [ inl direct ↦ direct | inr by_d ↦ second_of_both (reaches near ds d d) (reaches near ds d b) by_d ]

-- what is reached by way of a member is reached
reaches_on : (near : ℕ → ℕ → Bool) (cs : List ℕ) (c : ℕ) → Member c cs → (a b : ℕ) → IsTrue (reaches near cs a c) → IsTrue (reaches near cs c b) → IsTrue (reaches near cs a b)
reaches_on near [] c m a b h k = absurd m
reaches_on near (d ∷ ds) c (inl same) a b h k =
    let h' : IsTrue (reaches near (d ∷ ds) a d) = subst (λ (x : ℕ). IsTrue (reaches near (d ∷ ds) a x)) same h in
    let k' : IsTrue (reaches near (d ∷ ds) d b) = subst (λ (x : ℕ). IsTrue (reaches near (d ∷ ds) x b)) same k in
    right_or (reaches near ds a b) _ (both _ _ (to_itself near ds d a h') (from_itself near ds d b k'))
reaches_on near (d ∷ ds) c (inr m) a b h k =
    elim (either (reaches near ds a c) _ h) [
      | inl ac ↦ elim (either (reaches near ds c b) _ k) [
        | inl cb ↦ left_or (reaches near ds a b) _ (reaches_on near ds c m a b ac cb)
        | inr cdb ↦
            let cd = first_of_both (reaches near ds c d) (reaches near ds d b) cdb in
            let db = second_of_both (reaches near ds c d) (reaches near ds d b) cdb in
            right_or (reaches near ds a b) _ (both _ _ (reaches_on near ds c m a d ac cd) db)
      ]
      | inr adc ↦
          let ad = first_of_both (reaches near ds a d) (reaches near ds d c) adc in
          let dc = second_of_both (reaches near ds a d) (reaches near ds d c) adc in
          elim (either (reaches near ds c b) _ k) [
            | inl cb ↦ right_or (reaches near ds a b) _ (both _ _ ad (reaches_on near ds c m d b dc cb))
            | inr cdb ↦
                let db = second_of_both (reaches near ds c d) (reaches near ds d b) cdb in
                right_or (reaches near ds a b) _ (both _ _ ad db)
          ]
    ]

-- a chain whose members are in the list is found
reaches_from_chain : (core : ℕ → Bool) (near : ℕ → ℕ → Bool) (cs : List ℕ) → ((c : ℕ) → IsTrue (core c) → Member c cs) → (a : ℕ) (s : List ℕ) (b : ℕ) → IsChain core near a s b → IsTrue (reaches near cs a b)
reaches_from_chain core near cs all a [] b h = subst (λ (x : ℕ). IsTrue (reaches near cs a x)) h.1 (reaches_itself near cs a)
reaches_from_chain core near cs all a (c ∷ s) b h =
    reaches_on near cs c (all c (chain_start core near c s b h.2)) a b (reaches_near near cs a c h.1) (reaches_from_chain core near cs all c s b h.2)

-- the list has the cores and no other number
pub record AreCores (core : ℕ → Bool) (cores : List ℕ) : Type 0 where
  pub each : (c : ℕ) → Member c cores → IsTrue (core c)
  pub all : (c : ℕ) → IsTrue (core c) → Member c cores

module _ (core : ℕ → Bool) (near : ℕ → ℕ → Bool) (cores : List ℕ) (are : AreCores core cores) where
  -- the test decides whether two numbers are joined
  pub joined_from_test : (a b : ℕ) → IsTrue (is_joined core near cores a b) → Joined core near a b
  joined_from_test a b t =
      let rest = second_of_both (core a) (core b && reaches near cores a b) t in
      joined_from_reaches core near cores are.each a b (first_of_both (core a) (core b && reaches near cores a b) t) (first_of_both (core b) (reaches near cores a b) rest) (second_of_both (core b) (reaches near cores a b) rest)

  pub test_from_joined : (a b : ℕ) → Joined core near a b → IsTrue (is_joined core near cores a b)
  test_from_joined a b j = both (core a) _ (joined_start core near a b j) (both (core b) _ (joined_end core near a b j) (reaches_from_chain core near cores are.all a j.steps b j.chain))

-- chains stay chains where each core is a core of the others, and near cores are near there too
module _ (core other : ℕ → Bool) (near beside : ℕ → ℕ → Bool) (cores : (a : ℕ) → IsTrue (core a) → IsTrue (other a)) (nears : (a b : ℕ) → IsTrue (core a) → IsTrue (core b) → IsTrue (near a b) → IsTrue (beside a b)) where
  chain_kept : (a : ℕ) (steps : List ℕ) (b : ℕ) → IsChain core near a steps b → IsChain other beside a steps b
  chain_kept a [] b h = (cores a h.0, h.1)
  chain_kept a (c ∷ rest) b h = (cores a h.0, nears a c h.0 (chain_start core near c rest b h.2) h.1, chain_kept c rest b h.2)

  pub joined_kept : (a b : ℕ) → Joined core near a b → Joined other beside a b
  joined_kept a b j = record { steps = j.steps; chain = chain_kept a j.steps b j.chain }

-- a label is the same where the cores are, and the same of them are near
pub label_kept : (core other : ℕ → Bool) (near beside : ℕ → ℕ → Bool) → ((a : ℕ) → IsTrue (core a) → IsTrue (other a)) → ((a : ℕ) → IsTrue (other a) → IsTrue (core a)) → ((a b : ℕ) → IsTrue (core a) → IsTrue (core b) → near a b ≡ beside a b) →
    (a b : ℕ) → IsLabel core near a b → IsLabel other beside a b
label_kept core other near beside there back same a b h = record {
  joined = joined_kept core other near beside there (λ x y hx hy n. sym (same x y hx hy) ∙ n) a b h.joined;
  least = λ c j. h.least c (joined_kept other core beside near back (λ x y hx hy n. same x y (back x hx) (back y hy) ∙ n) a c j);
}
