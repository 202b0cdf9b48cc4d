-- What holds of the work list while groups grow.
use Rattle.std.specs.Prelude.{◌≡◌, ◌↔◌, ◌⊎◌, ◌<◌, ℕ, Bool, false, List, [], ◌∷◌, ◌++◌, length}
use Rattle.std.specs.Prelude.{slice_index, IsSome}
use Rattle.std.specs.FinMap as map
use Rattle.vec_record.specs.Held.{Held}
use Rattle.plain_dbscan.specs.Chains.{Joined}
use Rattle.chain_growth.specs.Hops.{IsUnion, AreSeeds}
use Rattle.chain_growth.specs.inside.Lists.{is_in, In, Distinct, missing, with_one, IsLonger}
use Rattle.chain_growth.specs.inside.Work.{IsNext, IsCounted, IsGroup, Enters}
use Rattle.label_book.specs.Labels.{IsMember}
use Rattle.split_expand.specs.declared.growing.Growth.{Growth}

-- near goes both ways
abbrev pub IsAlike : (ℕ → ℕ → Bool) → Type 0
IsAlike near = (a b : ℕ) → near a b ≡ near b a

-- each of these numbers is a record
abbrev pub AreThere : Held → List ℕ → Type 0
AreThere records numbers = (a : ℕ) → IsMember numbers a → IsSome (map.get records.vectors a)

-- all cores were asked
abbrev pub IsAsked : Growth → Type 0
IsAsked g = g.asked ≡ length g.order.keys

-- the core that is asked next
abbrev pub next_in : Growth → ℕ
next_in g = slice_index g.order.keys g.asked

-- the seeds are members, no core is in twice, all are members, and the seeds that are in no group
-- are counted
pub record IsSound (g : Growth) : Type 0 where
  pub seeds_within : (x : ℕ) → In g.seeds.keys x → In g.members x
  pub seeds_once : Distinct g.seeds.keys
  pub once : Distinct g.order.keys
  pub within : (x : ℕ) → In g.order.keys x → In g.members x
  pub unfound : g.unfound ≡ missing g.seeds.keys g.order.keys

-- a near number is in, or it is no seed and is left for later
abbrev pub IsMet : Growth → Growth → ℕ → Type 0
IsMet old new x =
    ((new.order.keys ≡ with_one old.order.keys x)
    × (In old.members x × (new.later.items ≡ old.later.items)))
    ⊎ ((new.order.keys ≡ old.order.keys)
    × ((is_in old.seeds.keys x ≡ false) × (new.later.items ≡ old.later.items ++ x ∷ [])))

-- no seed is left for later
abbrev pub HasNoSeedLater : Growth → Type 0
HasNoSeedLater g = (x : ℕ) → In g.later.items x → is_in g.seeds.keys x ≡ false

-- Seeds among the near numbers came in, and nothing else. Of the first n near numbers each is in,
-- or it is left for later.
pub record HasMet (old new : Growth) (n : ℕ) : Type 0 where
  pub entered : Enters old.members old.near old.order.keys new.order.keys false n
  pub later :
      (x : ℕ) → In new.later.items x → In old.near x × (is_in old.seeds.keys x ≡ false)
  pub met :
      (j : ℕ) → j < n
      → In new.order.keys (slice_index old.near j)
      ⊎ In new.later.items (slice_index old.near j)

-- the members and the seeds stay, and the cores go on from those before
pub record GoesOn (old new : Growth) : Type 0 where
  pub members : new.members ≡ old.members
  pub seeds : new.seeds.keys ≡ old.seeds.keys
  pub order : IsLonger old.order.keys new.order.keys

-- The members are a union of classes with a seed in each. The cores are those of whole classes, and
-- behind them the least seed that is in none.
pub record IsBegun
    (core : ℕ → Bool) (near : ℕ → ℕ → Bool) (g : Growth) : Type 0 where
  pub union : IsUnion core near (In g.members)
  pub seeds : AreSeeds core near (In g.members) (In g.seeds.keys)
  pub done : List ℕ
  pub seed : ℕ
  pub is : g.order.keys ≡ done ++ seed ∷ []
  pub at : g.asked ≡ length done
  pub next : IsNext core near g.seeds.keys done seed

-- the count rose by the costs of some grown members of the class at most, each once
abbrev pub IsPaidFor :
    (ℕ → Bool) → (ℕ → ℕ → Bool) → (ℕ → ℕ) → Growth → ℕ → ℕ → Type 0
IsPaidFor core near cost g old new =
    (b : IsBegun core near g)
    → IsCounted core near cost g.members g.seeds.keys (Joined core near b.seed) old new

-- the class of the seed is in, and nothing else came in
abbrev pub IsWhole : (ℕ → Bool) → (ℕ → ℕ → Bool) → Growth → Growth → Type 0
IsWhole core near old new =
    (b : IsBegun core near old) → IsGroup core near b.seed b.done new.order.keys

-- all seeds that were in no group are joined with the seed
abbrev pub IsLast : (ℕ → Bool) → (ℕ → ℕ → Bool) → Growth → Type 0
IsLast core near old =
    (b : IsBegun core near old) (q : ℕ) → In old.seeds.keys q → is_in b.done q ≡ false
    → Joined core near b.seed q

-- the list has these numbers and no others
abbrev pub HasSame : List ℕ → List ℕ → Type 0
HasSame numbers keys = (q : ℕ) → In keys q ↔ IsMember numbers q

-- the set has these numbers and no others, none twice
pub record IsSetOf (numbers keys : List ℕ) : Type 0 where
  pub same : HasSame numbers keys
  pub once : Distinct keys

-- no core has come, of these members and seeds
pub record IsBegin (members seeds : List ℕ) (g : Growth) : Type 0 where
  pub members_are : g.members ≡ members
  pub same : g.seeds.keys ≡ seeds
  pub none : g.order.keys ≡ []
  pub asked : g.asked ≡ 0
  pub unfound : g.unfound ≡ length seeds
