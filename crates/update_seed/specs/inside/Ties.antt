-- New cores and old labels in one book: what is of one group has one label there.
use Rattle.std.specs.Prelude.{◌≡◌, ◌⊎◌, ◌↔◌, ℕ, ◌<◌, ◌≤◌, Bool, List, [], ◌∷◌, ◌++◌, length, slice_get, Some, None, IsSome, IsTrue}
use Rattle.std.specs.Option.{option_map}
use Rattle.std.specs.FinMap as map
use Rattle.count_book.specs.Counted.{Counted, offered}
use Rattle.label_book.specs.Labels.{Labels, IsMember, EachOnce}
use Rattle.update_seed.specs.declared.groups.InGroup.{InGroup}

-- two numbers have one label
abbrev pub Same : Labels → ℕ → ℕ → Type 0
Same m a b = (k : ℕ) × ((map.get m a ≡ Some k) × (map.get m b ≡ Some k))

-- a relation that goes both ways and on
pub record IsTwoWay (e : ℕ → ℕ → Bool) : Type 0 where
  pub back : (a b : ℕ) → IsTrue (e a b) → IsTrue (e b a)
  pub on : (a b c : ℕ) → IsTrue (e a b) → IsTrue (e b c) → IsTrue (e a c)

-- numbers with one label are related
abbrev pub Finer : Labels → (ℕ → ℕ → Bool) → Type 0
Finer m e = (a b : ℕ) → Same m a b → IsTrue (e a b)

-- the book after b came to a, and nothing else but what this brings together
pub record IsTied (old : Labels) (a b : ℕ) (new : Labels) : Type 0 where
  pub kept : (x y : ℕ) → Same old x y → Same new x y
  pub tied : Same new a b
  pub keys : (q : ℕ) → IsSome (map.get new q) → IsSome (map.get old q) ⊎ (q ≡ b)
  pub finest : (e : ℕ → ℕ → Bool) → IsTwoWay e → IsTrue (e a b) → Finer old e → Finer new e

-- the name under which a core is tied: its label, or itself where it is new
abbrev pub IsName : Labels → Labels → ℕ → ℕ → Type 0
IsName labels m b t =
    (map.get labels b ≡ Some t) ⊎ ((map.get labels b ≡ None) × (IsSome (map.get m b) × (t ≡ b)))

-- each key of the second book is one of the first, or a label
abbrev pub AddsLabels : Labels → Labels → Labels → Type 0
AddsLabels labels old new =
    (q : ℕ) → IsSome (map.get new q) → IsSome (map.get old q) ⊎ (map.get labels q ≡ Some q)

-- the book after all that has a name came to a core
pub record AreTied (labels : Labels) (core : ℕ) (near : List ℕ) (old new : Labels) : Type 0 where
  pub kept : (x y : ℕ) → Same old x y → Same new x y
  pub tied : (b t : ℕ) → IsMember near b → IsName labels old b t → Same new core t
  pub keys : AddsLabels labels old new
  pub finest :
      (e : ℕ → ℕ → Bool) → IsTwoWay e
      → ((b t : ℕ) → IsMember near b → IsName labels old b t → IsTrue (e core t))
      → Finer old e → Finer new e

-- the number has a name
abbrev pub IsNamed : Labels → Labels → ℕ → Type 0
IsNamed labels m b = IsSome (map.get labels b) ⊎ IsSome (map.get m b)

-- the counts after a core was offered to what has no name
pub record IsOffered
    (labels m : Labels) (core : ℕ) (near : List ℕ) (old new : Counted) : Type 0 where
  pub minpts_kept : new.minpts ≡ old.minpts
  pub row :
      (q : ℕ) → IsMember near q → (IsNamed labels m q → ⊥)
      → map.get new.rows q ≡ option_map (offered old.minpts core) (map.get old.rows q)
  pub named : (q : ℕ) → IsNamed labels m q → map.get new.rows q ≡ map.get old.rows q
  pub far : (q : ℕ) → (IsMember near q → ⊥) → map.get new.rows q ≡ map.get old.rows q

-- each core has itself as label, and nothing else has one
pub record AreAlone (cores : List ℕ) (m : Labels) : Type 0 where
  pub own : (q : ℕ) → IsMember cores q → map.get m q ≡ Some q
  pub other : (q : ℕ) → (IsMember cores q → ⊥) → map.get m q ≡ None

-- the book after these of the cores had what is near them tied to them
pub record AreLinked
    (near : ℕ → ℕ → Bool) (labels : Labels) (cores done : List ℕ) (m : Labels) : Type 0 where
  pub there : (n : ℕ) → IsMember cores n → IsSome (map.get m n)
  pub keys : (q : ℕ) → IsSome (map.get m q) → IsMember cores q ⊎ (map.get labels q ≡ Some q)
  pub label :
      (n b l : ℕ) → IsMember done n → IsTrue (near n b) → map.get labels b ≡ Some l → Same m n l
  pub core : (n b : ℕ) → IsMember done n → IsTrue (near n b) → IsMember cores b → Same m n b
  pub finest :
      (e : ℕ → ℕ → Bool) → IsTwoWay e → ((n : ℕ) → IsMember cores n → IsTrue (e n n))
      → ((n b l : ℕ) → IsMember cores n → IsTrue (near n b) → map.get labels b ≡ Some l
      → IsTrue (e n l))
      → ((n b : ℕ) → IsMember cores n → IsTrue (near n b) → IsMember cores b → IsTrue (e n b))
      → Finer m e

-- each number is below all later ones
abbrev pub IsRising : List ℕ → Type 0
IsRising xs =
    (i j a b : ℕ) → i < j → slice_get xs i ≡ Some a → slice_get xs j ≡ Some b → a < b

-- two lists have the same members
abbrev pub HaveSame : List ℕ → List ℕ → Type 0
HaveSame xs ys = (q : ℕ) → IsMember xs q ↔ IsMember ys q

-- what a core does to the heads of the classes, and to the map from their labels to them
abbrev pub IsBegun : Labels → ℕ → Labels → List ℕ → Labels → List ℕ → Type 0
IsBegun m core begun heads begun' heads' =
    (k : ℕ) → map.get m core ≡ Some k
    → (IsSome (map.get begun k) × ((begun' ≡ begun) × (heads' ≡ heads)))
    ⊎ ((map.get begun k ≡ None)
    × ((begun' ≡ map.insert begun k core) × (heads' ≡ heads ++ core ∷ [])))

-- the least core of each class, rising
pub record AreHeads (m : Labels) (cores heads : List ℕ) : Type 0 where
  pub rising : IsRising heads
  pub member : (h : ℕ) → IsMember heads h → IsMember cores h
  pub least : (h n : ℕ) → IsMember heads h → IsMember cores n → Same m h n → h ≤ n
  pub every : (n : ℕ) → IsMember cores n → (h : ℕ) × (IsMember heads h × Same m h n)

-- the heads of these cores, with the map from the labels of their classes
pub record AreBegun (m : Labels) (cores : List ℕ) (begun : Labels) (heads : List ℕ) : Type 0 where
  pub heads_are : AreHeads m cores heads
  pub begun_is :
      (k : ℕ) → IsSome (map.get begun k)
      → (h : ℕ) × (IsMember heads h × (map.get m h ≡ Some k))
  pub is_begun : (h k : ℕ) → IsMember heads h → map.get m h ≡ Some k → IsSome (map.get begun k)

-- the class of a head, its new cores and its old labels apart
pub record IsClassOf (labels m : Labels) (head : ℕ) (g : InGroup) : Type 0 where
  pub new : (q : ℕ) → IsMember g.new_cores q ↔ (Same m head q × (map.get labels q ≡ None))
  pub old : (q : ℕ) → IsMember g.old_labels q ↔ (Same m head q × IsSome (map.get labels q))
  pub new_once : EachOnce g.new_cores
  pub old_once : EachOnce g.old_labels

-- each group is the class of the head at its place
pub record ArePaired (labels m : Labels) (heads : List ℕ) (groups : List InGroup) : Type 0 where
  pub long : length groups ≡ length heads
  pub each :
      (j h : ℕ) (g : InGroup) → slice_get heads j ≡ Some h → slice_get groups j ≡ Some g
      → IsClassOf labels m h g

-- the classes of these cores, by their heads
pub record AreClasses (labels m : Labels) (cores : List ℕ) (groups : List InGroup) : Type 0 where
  pub heads : List ℕ
  pub heads_are : AreHeads m cores heads
  pub paired : ArePaired labels m heads groups
