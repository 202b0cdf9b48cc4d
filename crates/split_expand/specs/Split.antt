-- What a split of a former cluster needs and answers, and what it may ask.
use Rattle.std.specs.Prelude.{◌≡◌, ◌↔◌, ℕ, ◌+◌, ◌<◌, ◌≤◌, Bool, List, length, slice_get, Some, IsSome, sum_by}
use Rattle.std.specs.FinMap as map
use Rattle.vec_record.specs.Held.{Held}
use Rattle.plain_dbscan.specs.Chains.{Joined}
use Rattle.count_book.specs.Counted.{Counted, IsCore}
use Rattle.label_book.specs.Labels.{IsMember, EachOnce}
use Rattle.label_book.specs.Parting.{IsGrouped, AreEachOnce, AreApart}
use Rattle.chain_growth.specs.Hops.{IsUnion, AreSeeds, IsGrown}

-- Each of these numbers is a record, and core by the book.
pub record AreCoresIn (records : Held) (counts : Counted) (former : List ℕ) : Type 0 where
  pub there : (a : ℕ) → IsMember former a → IsSome (map.get records.vectors a)
  pub core : (a : ℕ) → IsMember former a → IsCore counts a

-- Each member of the one list is a member of the other.
abbrev pub AreAmong : List ℕ → List ℕ → Type 0
AreAmong former seeds = (q : ℕ) → IsMember seeds q → IsMember former q

-- The groups are disjoint lists of these numbers, of which none is empty and none names a number
-- twice.
pub record AreGroupsOf (former : List ℕ) (groups : List (List ℕ)) : Type 0 where
  pub members : (a : ℕ) → IsGrouped groups a → IsMember former a
  pub some : (j : ℕ) (g : List ℕ) → slice_get groups j ≡ Some g → 0 < length g
  pub once : AreEachOnce groups
  pub apart : AreApart groups

-- The group has exactly what chains join with a member of it.
abbrev pub IsClass : (ℕ → Bool) → (ℕ → ℕ → Bool) → List ℕ → Type 0
IsClass core near g = (s a : ℕ) → IsMember g s → Joined core near s a ↔ IsMember g a

-- Each group is a class of cores, and two members of the former cluster that are in no group are
-- joined: all such members are one class more, or there is none.
pub record AreSplit
    (core : ℕ → Bool) (near : ℕ → ℕ → Bool) (former : List ℕ) (groups : List (List ℕ)) : Type 0
  where
    pub classes : (j : ℕ) (g : List ℕ) → slice_get groups j ≡ Some g → IsClass core near g
    pub rest :
        (a b : ℕ) → IsMember former a → IsMember former b → (IsGrouped groups a → ⊥)
        → (IsGrouped groups b → ⊥) → Joined core near a b

-- The former cluster is a union of classes of joined cores, and each class has a seed.
pub record AreSeeded
    (core : ℕ → Bool) (near : ℕ → ℕ → Bool) (former seeds : List ℕ) : Type 0 where
  pub union : IsUnion core near (IsMember former)
  pub each : AreSeeds core near (IsMember former) (IsMember seeds)

-- Then the groups are a split.
abbrev pub IsSplit :
    (ℕ → Bool) → (ℕ → ℕ → Bool) → List ℕ → List ℕ → List (List ℕ) → Type 0
IsSplit core near former seeds groups =
    AreSeeded core near former seeds → AreSplit core near former groups

-- A member that a split may ask.
abbrev pub MayAsk : (ℕ → Bool) → (ℕ → ℕ → Bool) → List ℕ → List ℕ → ℕ → Type 0
MayAsk core near former seeds a = IsGrown core near (IsMember former) (IsMember seeds) a

-- The count rose by no more than the costs of queries at these, each once, and each is grown.
pub record ArePaid
    (core : ℕ → Bool) (near : ℕ → ℕ → Bool) (cost : ℕ → ℕ) (former seeds : List ℕ)
    (old new : ℕ) : Type 0 where
  pub asked : List ℕ
  pub once : EachOnce asked
  pub grown : (a : ℕ) → IsMember asked a → MayAsk core near former seeds a
  pub count : new ≤ old + sum_by cost asked

-- So it is where the former cluster is a union of classes with a seed in each.
abbrev pub IsPaid :
    (ℕ → Bool) → (ℕ → ℕ → Bool) → (ℕ → ℕ) → List ℕ → List ℕ → ℕ → ℕ → Type 0
IsPaid core near cost former seeds old new =
    AreSeeded core near former seeds → ArePaid core near cost former seeds old new

-- Then the count rose by no more than the costs of one query at each grown member: by no more than
-- those at the numbers of any list that has them all.
abbrev pub IsBounded :
    (ℕ → Bool) → (ℕ → ℕ → Bool) → (ℕ → ℕ) → List ℕ → List ℕ → ℕ → ℕ → Type 0
IsBounded core near cost former seeds old new =
    AreSeeded core near former seeds → (all : List ℕ)
    → ((a : ℕ) → MayAsk core near former seeds a → IsMember all a) → new ≤ old + sum_by cost all
