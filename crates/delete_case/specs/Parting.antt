-- What becomes of former clusters when they part, what is told of it, and what it may cost.
use Rattle.std.specs.Prelude.{◌≡◌, ℕ, ◌+◌, ◌<◌, ◌≤◌, Bool, List, [], ◌∷◌, ◌++◌, slice_get}
use Rattle.std.specs.Prelude.{sum_by, None, Some, IsSome, IsTrue, IsSomeAnd}
use Rattle.std.specs.List.Sorted.{IsStrictlyIncreasing}
use Rattle.std.specs.FinMap as map
use Rattle.vec_record.specs.Held.{Held}
use Rattle.vec_record.specs.declared.event.Event.{Event}
use Rattle.plain_dbscan.specs.Chains.{Joined}
use Rattle.plain_dbscan.specs.Cases.{decline}
use Rattle.count_book.specs.Counted.{Counted, IsCore}
use Rattle.label_book.specs.Labels.{Labels, IsMember, EachOnce, IsLeastOf}
use Rattle.label_book.specs.Parting.{IsGrouped, AreNewLabels}
use Rattle.update_seed.specs.declared.former.Former.{Former}
use Rattle.chain_growth.specs.Hops.{IsUnion, AreSeeds, IsGrown}
use Rattle.split_expand.specs.Split.{IsClass}

-- Each core by the counts is among the records.
abbrev pub CoresAreThere : Held → Counted → Type 0
CoresAreThere records counts = (a : ℕ) → IsCore counts a → IsSome (map.get records.vectors a)

-- A former cluster of these labels: its lost cores are no longer core by the counts, and its seeds
-- are.
pub record IsPartable (counts : Counted) (labels : Labels) (f : Former) : Type 0 where
  pub label_is : map.get labels f.label ≡ Some f.label
  pub lost_in : (b : ℕ) → IsMember f.lost b → map.get labels b ≡ Some f.label
  pub lost_once : EachOnce f.lost
  pub lost_out : (b : ℕ) → IsMember f.lost b → IsCore counts b → ⊥
  pub seeds_in :
      (q : ℕ) → IsMember f.seeds q → IsCore counts q × (map.get labels q ≡ Some f.label)

-- So each of them is, and their labels rise.
pub record ArePartable (counts : Counted) (labels : Labels) (list : List Former) : Type 0 where
  pub each :
      (j : ℕ) (f : Former) → slice_get list j ≡ Some f → IsPartable counts labels f
  pub rising :
      (i j : ℕ) (f g : Former) → i < j → slice_get list i ≡ Some f → slice_get list j ≡ Some g
      → f.label < g.label

-- The core is left of the cluster of this label.
abbrev pub Remains : (ℕ → Bool) → Labels → ℕ → ℕ → Type 0
Remains core labels l a = IsTrue (core a) × (map.get labels a ≡ Some l)

-- What is left of a former cluster is a union of classes of joined cores, with a seed in each.
pub record IsSeeded
    (core : ℕ → Bool) (near : ℕ → ℕ → Bool) (labels : Labels) (f : Former) : Type 0 where
  pub union : IsUnion core near (Remains core labels f.label)
  pub seeds : AreSeeds core near (Remains core labels f.label) (IsMember f.seeds)

-- Each group is a class, and all that is left of the cluster and in no group is one class more.
pub record AreClasses
    (core : ℕ → Bool) (near : ℕ → ℕ → Bool) (labels : Labels) (label : ℕ)
    (groups : List (List ℕ)) : Type 0 where
  pub classes : (j : ℕ) (g : List ℕ) → slice_get groups j ≡ Some g → IsClass core near g
  pub rest :
      (a b : ℕ) → Remains core labels label a → Remains core labels label b
      → (IsGrouped groups a → ⊥) → (IsGrouped groups b → ⊥) → Joined core near a b

-- A member of the cluster that is neither lost nor in a group.
pub record IsLeft (old : Labels) (f : Former) (groups : List (List ℕ)) (a : ℕ) : Type 0 where
  pub member : map.get old a ≡ Some f.label
  pub kept : IsMember f.lost a → ⊥
  pub alone : IsGrouped groups a → ⊥

-- The lost ones have no label any longer, each group is a cluster by its least member, and so is
-- what is in no group. Where the cluster was seeded, these are classes.
pub record IsCut
    (core : ℕ → Bool) (near : ℕ → ℕ → Bool) (old : Labels) (f : Former) (new : Labels) : Type 0
  where
    pub groups : List (List ℕ)
    pub grouped_in : (a : ℕ) → IsGrouped groups a → map.get old a ≡ Some f.label
    pub gone : (b : ℕ) → IsMember f.lost b → map.get new b ≡ None
    pub grouped :
        (a : ℕ) (of : IsGrouped groups a) → IsSomeAnd (map.get new a) (λ l. IsLeastOf l of.1.0)
    pub rest :
        (a : ℕ) → IsLeft old f groups a
        → IsSomeAnd (map.get new a)
        (λ l. IsLeft old f groups l × ((b : ℕ) → IsLeft old f groups b → l ≤ b))
    pub split : IsSeeded core near old f → AreClasses core near old f.label groups

-- The number is in none of the former clusters.
abbrev pub IsElsewhere : Labels → List Former → ℕ → Type 0
IsElsewhere old list q =
    (j : ℕ) (f : Former) → slice_get list j ≡ Some f → map.get old q ≡ Some f.label → ⊥

-- Each former cluster was cut, and all other labels are as they were.
pub record AreAllParted
    (core : ℕ → Bool) (near : ℕ → ℕ → Bool) (old : Labels) (list : List Former) (new : Labels) :
    Type 0 where
  pub each : (j : ℕ) (f : Former) → slice_get list j ≡ Some f → IsCut core near old f new
  pub others : (q : ℕ) → IsElsewhere old list q → map.get new q ≡ map.get old q

-- The labels that the members of a former cluster have now, rising.
pub record AreRisen (old : Labels) (label : ℕ) (new : Labels) (labels : List ℕ) : Type 0 where
  pub are : AreNewLabels old label new labels
  pub rising : IsStrictlyIncreasing labels

-- The events of the former clusters, one after another: of each, those by its new labels.
abbrev pub AreTold : Labels → List Former → Labels → List Event → Type 0
AreTold old [] new told = told ≡ []
AreTold old (f ∷ list) new told =
    (labels : List ℕ) × (rest : List Event) × AreRisen old f.label new labels
    × (told ≡ decline f.label labels ++ rest) × AreTold old list new rest

-- These were appended.
abbrev pub AreAllTold : Labels → List Former → Labels → List Event → List Event → Type 0
AreAllTold old list new out out' =
    (told : List Event) × AreTold old list new told × (out' ≡ out ++ told)

-- The core may be asked when the clusters are split: it is grown from the seeds of one.
pub record MayBeAsked
    (core : ℕ → Bool) (near : ℕ → ℕ → Bool) (labels : Labels) (list : List Former) (a : ℕ) : Type 0
  where
    pub place : ℕ
    pub former : Former
    pub stands : slice_get list place ≡ Some former
    pub grown : IsGrown core near (Remains core labels former.label) (IsMember former.seeds) a

-- The count rose by no more than the costs of queries at these, each once, and each may be asked.
pub record AreAsked
    (core : ℕ → Bool) (near : ℕ → ℕ → Bool) (cost : ℕ → ℕ) (labels : Labels) (list : List Former)
    (steps steps' : ℕ) : Type 0 where
  pub asked : List ℕ
  pub once : EachOnce asked
  pub may : (a : ℕ) → IsMember asked a → MayBeAsked core near labels list a
  pub count : steps' ≤ steps + sum_by cost asked

-- So it is where each former cluster is seeded.
abbrev pub AreAllPaid :
    (ℕ → Bool) → (ℕ → ℕ → Bool) → (ℕ → ℕ) → Labels → List Former → ℕ → ℕ → Type 0
AreAllPaid core near cost labels list steps steps' =
    ((j : ℕ) (f : Former) → slice_get list j ≡ Some f → IsSeeded core near labels f)
    → AreAsked core near cost labels list steps steps'
