-- Cores, which of them are near each other, and what chains of near cores join.
use Rattle.std.specs.Prelude.{◌≡◌, ℕ, ◌≤◌, Bool, false, List, [], ◌∷◌, ◌==◌, ◌&&◌, ◌||◌, IsTrue, unwrap_or, find}

-- A chain of cores leads from a through the further cores of the list to b: each is near the one before.
abbrev pub IsChain : (ℕ → Bool) → (ℕ → ℕ → Bool) → ℕ → List ℕ → ℕ → Type 0
IsChain core near a [] b = IsTrue (core a) × (a ≡ b)
IsChain core near a (c ∷ rest) b = IsTrue (core a) × IsTrue (near a c) × IsChain core near c rest b

-- Two cores are joined where some chain leads from one to the other.
pub record Joined (core : ℕ → Bool) (near : ℕ → ℕ → Bool) (a b : ℕ) : Type 0 where
  pub steps : List ℕ
  pub chain : IsChain core near a steps b

-- The label of a core is the least core that is joined with it.
pub record IsLabel (core : ℕ → Bool) (near : ℕ → ℕ → Bool) (a b : ℕ) : Type 0 where
  pub joined : Joined core near a b
  pub least : (c : ℕ) → Joined core near a c → b ≤ c

-- The anchor of a record that is no core is the least core near it.
pub record IsAnchor (core : ℕ → Bool) (near : ℕ → ℕ → Bool) (a b : ℕ) : Type 0 where
  pub no_core : core a ≡ false
  pub is_core : IsTrue (core b)
  pub is_near : IsTrue (near a b)
  pub least : (c : ℕ) → IsTrue (core c) → IsTrue (near a c) → b ≤ c

-- What follows computes the label, so that lists of marks can be compared. A law ties it to the relation.

-- Whether b is a, or near it, or reached from it by way of the numbers in the list alone.
abbrev pub reaches : (ℕ → ℕ → Bool) → List ℕ → ℕ → ℕ → Bool
reaches near [] a b = (a == b) || near a b
reaches near (c ∷ cs) a b = reaches near cs a b || (reaches near cs a c && reaches near cs c b)

-- Whether a chain leads from a to b, where the list has all cores.
abbrev pub is_joined : (ℕ → Bool) → (ℕ → ℕ → Bool) → List ℕ → ℕ → ℕ → Bool
is_joined core near cores a b = core a && (core b && reaches near cores a b)

-- The least core that is joined with a, where the list has all cores by rising number.
abbrev pub label_of : (ℕ → Bool) → (ℕ → ℕ → Bool) → List ℕ → ℕ → ℕ
label_of core near cores a = unwrap_or (find (is_joined core near cores a) cores) 0
