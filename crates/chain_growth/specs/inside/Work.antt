-- A work list that grows one class after another, and what it counts.
use Rattle.std.specs.Prelude.{◌≡◌, ℕ, zero, suc, ◌+◌, ◌<◌, ◌≤◌, Bool, false, List, [], ◌∷◌, ◌++◌, length, slice_index, ◌==◌, ◌&&◌, ◌||◌, IsTrue}
use Rattle.std.specs.List.{sum_by, list_any}
use Rattle.plain_dbscan.specs.Chains.{Joined}
use Rattle.chain_growth.specs.Hops.{IsUnion, AreSeeds, IsGrown}
use Rattle.chain_growth.specs.inside.Lists.{In, is_in, Distinct, flat}

-- whether at most n steps along the cores in the list lead from s to c
abbrev pub reach_in : (ℕ → ℕ → Bool) → List ℕ → ℕ → ℕ → ℕ → Bool
reach_in near cores zero s c = s == c
reach_in near cores (suc n) s c =
    reach_in near cores n s c || list_any (λ b. reach_in near cores n s b && near b c) cores

-- the group has the cores that chains join with s, and no others
pub record IsClassOf
    (core : ℕ → Bool) (near : ℕ → ℕ → Bool) (s : ℕ) (group : List ℕ) : Type 0 where
  pub joined : (a : ℕ) → In group a → Joined core near s a
  pub all : (a : ℕ) → Joined core near s a → In group a

module _ (core : ℕ → Bool) (near : ℕ → ℕ → Bool) where
  -- each group is the class of a seed
  abbrev pub AreClasses : List ℕ → List (List ℕ) → Type 0
  AreClasses seeds [] = Unit {0}
  AreClasses seeds (g ∷ gs) =
      ((s : ℕ) × In seeds s × IsClassOf core near s g) × AreClasses seeds gs

-- each group is a class, no core is in two, and the members in none are one class or nothing
pub record IsCut
    (core : ℕ → Bool) (near : ℕ → ℕ → Bool) (former seeds : List ℕ)
    (groups : List (List ℕ)) : Type 0 where
  pub classes : AreClasses core near seeds groups
  pub once : Distinct (flat groups)
  pub rest :
      (a b : ℕ) → In former a → In former b → is_in (flat groups) a ≡ false
      → is_in (flat groups) b ≡ false → Joined core near a b

-- the count rose by the costs of some grown members at most, each once, for which P holds
pub record IsCounted
    (core : ℕ → Bool) (near : ℕ → ℕ → Bool) (cost : ℕ → ℕ) (former seeds : List ℕ)
    (P : ℕ → Type 0) (old new : ℕ) : Type 0 where
  pub asked : List ℕ
  pub distinct : Distinct asked
  pub each : (a : ℕ) → In asked a → IsGrown core near (In former) (In seeds) a × P a
  pub count : new ≤ old + sum_by cost asked

-- with each number the list has all that is joined with it
abbrev pub IsDone : (ℕ → Bool) → (ℕ → ℕ → Bool) → List ℕ → Type 0
IsDone core near done = (a b : ℕ) → In done a → Joined core near a b → In done b

-- s is the least seed outside what is done
pub record IsNext
    (core : ℕ → Bool) (near : ℕ → ℕ → Bool) (seeds done : List ℕ) (s : ℕ) : Type 0 where
  pub closed : IsDone core near done
  pub seed : In seeds s
  pub out : is_in done s ≡ false
  pub least : (r : ℕ) → In seeds r → is_in done r ≡ false → s ≤ r

-- the list is longer by the class of s
pub record IsGroup
    (core : ℕ → Bool) (near : ℕ → ℕ → Bool) (s : ℕ) (old new : List ℕ) : Type 0 where
  pub group : List ℕ
  pub is : new ≡ old ++ group
  pub is_class : IsClassOf core near s group

-- the list is longer by members among those found, and has the first n of them that are members,
-- where it takes all
pub record Enters
    (former found old new : List ℕ) (all : Bool) (n : ℕ) : Type 0 where
  pub added : List ℕ
  pub is : new ≡ old ++ added
  pub sound : (x : ℕ) → In added x → In found x × In former x
  pub complete :
      IsTrue all → (j : ℕ) → j < n → In former (slice_index found j)
      → In new (slice_index found j)

-- the list is longer by members near a number, and has all of them
pub record EntersNear
    (near : ℕ → ℕ → Bool) (former : List ℕ) (a : ℕ) (old new : List ℕ) : Type 0 where
  pub added : List ℕ
  pub is : new ≡ old ++ added
  pub sound : (x : ℕ) → In added x → IsTrue (near a x) × In former x
  pub complete : (x : ℕ) → In former x → IsTrue (near a x) → In new x
