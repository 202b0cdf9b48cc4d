-- How few steps lead from one core to another, and which cores a split of a cluster may ask.
use Rattle.std.specs.Prelude.{◌≡◌, ℕ, ◌<◌, ◌≤◌, Bool, List, length, IsTrue}
use Rattle.plain_dbscan.specs.Chains.{IsChain, Joined}
use Rattle.label_book.specs.Labels.{IsMember}

-- Some chain from a to b has n steps, and none has fewer.
pub record IsHops (core : ℕ → Bool) (near : ℕ → ℕ → Bool) (a b n : ℕ) : Type 0 where
  pub steps : List ℕ
  pub chain : IsChain core near a steps b
  pub count : length steps ≡ n
  pub least : (other : List ℕ) → IsChain core near a other b → n ≤ length other

-- All of these are cores, and what chains join with one of them is one of them.
pub record IsUnion
    (core : ℕ → Bool) (near : ℕ → ℕ → Bool) (Former : ℕ → Type 0) : Type 0 where
  pub cores : (a : ℕ) → Former a → IsTrue (core a)
  pub whole : (a b : ℕ) → Former a → Joined core near a b → Former b

-- The seeds are of them, at least one in each class.
pub record AreSeeds
    (core : ℕ → Bool) (near : ℕ → ℕ → Bool) (Former Seed : ℕ → Type 0) : Type 0 where
  pub members : (q : ℕ) → Seed q → Former q
  pub each : (a : ℕ) → Former a → (q : ℕ) × Seed q × Joined core near a q

-- s is the least seed of its class, and each class has a seed that is not above it: in the order of
-- their least seeds, its class is the last.
pub record IsLastSeed
    (core : ℕ → Bool) (near : ℕ → ℕ → Bool) (Seed : ℕ → Type 0) (s : ℕ) : Type 0 where
  pub seed : Seed s
  pub least : (q : ℕ) → Seed q → Joined core near s q → s ≤ q
  pub last : (q : ℕ) → Seed q → (r : ℕ) × Seed r × Joined core near q r × (r ≤ s)

-- Of the seeds in the class of s, the one that is the most steps from s is e steps from it.
pub record IsFarthest
    (core : ℕ → Bool) (near : ℕ → ℕ → Bool) (Seed : ℕ → Type 0) (s e : ℕ) : Type 0 where
  pub seed : ℕ
  pub is_seed : Seed seed
  pub hops : IsHops core near s seed e
  pub greatest : (q n : ℕ) → Seed q → IsHops core near s q n → n ≤ e

-- Grown are all members but those of the last class that are as many steps from its least seed as
-- the farthest seed there, or more.
pub record IsGrown
    (core : ℕ → Bool) (near : ℕ → ℕ → Bool) (Former Seed : ℕ → Type 0) (a : ℕ) : Type 0 where
  pub member : Former a
  pub fewer :
      (s e : ℕ) → IsLastSeed core near Seed s → IsFarthest core near Seed s e
      → Joined core near s a → (n : ℕ) × IsHops core near s a n × (n < e)

-- There is a last class, and in it a farthest seed.
abbrev pub HasLast : (ℕ → Bool) → (ℕ → ℕ → Bool) → (ℕ → Type 0) → Type 0
HasLast core near Seed =
    (s : ℕ) × (e : ℕ) × IsLastSeed core near Seed s × IsFarthest core near Seed s e

-- So it is wherever lists name a union of classes with a seed in each, and there is a seed.
abbrev pub HasLastClass : Type 0
HasLastClass =
    (core : ℕ → Bool) (near : ℕ → ℕ → Bool) (former seeds : List ℕ) (q : ℕ)
    → IsUnion core near (IsMember former) → AreSeeds core near (IsMember former) (IsMember seeds)
    → IsMember seeds q → HasLast core near (IsMember seeds)
