-- Classes of joined cores, where some cores come or go. No records are known here.
use Rattle.std.proofs.Common.{◌≡◌, ℕ, ◌≤◌, Bool, false, List, [], ◌∷◌, IsTrue, sym, ap, subst, ◌∙◌, inl, inr}
use Rattle.std.proofs.lemmas.Bool.{cases_Bool}
use Rattle.plain_dbscan.specs.Chains.{IsChain, Joined, IsLabel}
use Rattle.plain_dbscan.specs.Change.{IsWithin, HasNoNew, AreGrown}
use Rattle.plain_dbscan.proofs.Chains.{chain_start, joined_itself, joined_near, joined_on, joined_kept}

module _ (core : ℕ → Bool) (near : ℕ → ℕ → Bool) (core' : ℕ → Bool) (near' : ℕ → ℕ → Bool) (within : IsWithin core near core' near') where
  -- what is joined stays joined among more cores
  pub joined_larger : (a b : ℕ) → Joined core near a b → Joined core' near' a b
  joined_larger = joined_kept core core' near near' within.cores (λ a b h k n. sym (within.agree a b h k) ∙ n)

  pub label_lower : (a k l : ℕ) → IsLabel core near a k → IsLabel core' near' a l → l ≤ k
  label_lower a k l h h' = h'.least k (joined_larger a k h.joined)

  -- a chain of a class that has no new core is one of the old cores
  pub chain_smaller : (a : ℕ) → HasNoNew core core' near' a → (steps : List ℕ) (b : ℕ) → IsChain core' near' a steps b → IsChain core near a steps b
  chain_smaller a all [] b h = (all a (joined_itself core' near' a h.0), h.1)
  chain_smaller a all (c ∷ rest) b h =
      let on : Joined core' near' a c = joined_near core' near' a c h.0 (chain_start core' near' c rest b h.2) h.1 in
      let at_a = all a (joined_itself core' near' a h.0) in
      let at_c = all c on in
      (at_a, within.agree a c at_a at_c ∙ h.1, chain_smaller c (λ x j. all x (joined_on core' near' a c x on j)) rest b h.2)

  pub joined_smaller : (a b : ℕ) → HasNoNew core core' near' a → Joined core' near' a b → Joined core near a b
  joined_smaller a b all j = record { steps = j.steps; chain = chain_smaller a all j.steps b j.chain }

  -- such a class keeps its label, in both directions
  pub label_smaller : (a l : ℕ) → HasNoNew core core' near' a → IsLabel core' near' a l → IsLabel core near a l
  label_smaller a l all h = record { joined = joined_smaller a l all h.joined; least = λ c j. h.least c (joined_larger a c j) }

  pub label_larger : (a l : ℕ) → HasNoNew core core' near' a → IsLabel core near a l → IsLabel core' near' a l
  label_larger a l all h = record { joined = joined_larger a l h.joined; least = λ c j. h.least c (joined_smaller a c all j) }

  pub are_grown : AreGrown core near core' near'
  are_grown = record {
    joined = joined_larger;
    lower = label_lower;
    kept = λ a b all. (joined_smaller a b all, joined_larger a b);
    label = λ a l all. (label_smaller a l all, label_larger a l all);
  }

  -- a core of the fewer that is near one that they lack
  pub record IsSeed (s : ℕ) : Type 0 where
    pub is_core : IsTrue (core s)
    pub beside : ℕ
    pub was : IsTrue (core' beside)
    pub lost : core beside ≡ false
    pub is_near : IsTrue (near' s beside)

  seed_along : (a : ℕ) → IsTrue (core a) → (steps : List ℕ) (x : ℕ) → core x ≡ false → IsChain core' near' a steps x → (s : ℕ) × Joined core near a s × IsSeed s
  seed_along a here [] x out h = let bad : core a ≡ false = ap core h.1 ∙ out in absurd (cc)
  seed_along a here (c ∷ steps) x out h = elim (cases_Bool (core c)) [
    | inl stays ↦
        let rest = seed_along c stays steps x out h.2 in
        (rest.0, joined_on core near a c rest.0 (joined_near core near a c here stays (within.agree a c here stays ∙ h.1)) rest.1, rest.2)
    | inr gone ↦ (a, joined_itself core near a here, record { is_core = here; beside = c; was = chain_start core' near' c steps x h.2; lost = gone; is_near = h.1 })
  ]

  -- each core left of a class that lost one is joined with a seed
  pub seed_of : (a x : ℕ) → IsTrue (core a) → core x ≡ false → Joined core' near' a x → (s : ℕ) × Joined core near a s × IsSeed s
  seed_of a x here out j = seed_along a here j.steps x out j.chain

-- a set that has each core near a member
abbrev pub IsClosed : (ℕ → Bool) → (ℕ → ℕ → Bool) → (ℕ → Type 0) → Type 0
IsClosed core near P = (a b : ℕ) → P a → IsTrue (core b) → IsTrue (near a b) → P b

module _ (core : ℕ → Bool) (near : ℕ → ℕ → Bool) (P : ℕ → Type 0) (closed : IsClosed core near P) where
  closed_along : (a : ℕ) (steps : List ℕ) (b : ℕ) → P a → IsChain core near a steps b → P b
  closed_along a [] b p h = subst P h.1 p
  closed_along a (c ∷ rest) b p h = closed_along c rest b (closed a c p (chain_start core near c rest b h.2) h.1) h.2

  -- a closed set has all that is joined with a member
  pub joined_in : (a b : ℕ) → P a → Joined core near a b → P b
  joined_in a b p j = closed_along a j.steps b p j.chain
