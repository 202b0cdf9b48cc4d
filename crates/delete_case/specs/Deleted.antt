-- What a deletion leaves, and what it may cost.
use Rattle.std.specs.Prelude.{◌≡◌, ℕ, ◌+◌, ◌≤◌, false, not, ◌&&◌, ◌==◌, List, [], filter}
use Rattle.std.specs.Prelude.{unwrap_or, IsTrue}
use Rattle.std.specs.FinMap as map
use Rattle.vec_record.specs.Held.{Held}
use Rattle.plain_dbscan.specs.Marks.{Density, Entries, is_core, is_near, cluster_of}
use Rattle.plain_dbscan.specs.Asked.{asked_of_deletion}
use Rattle.label_book.specs.Labels.{IsMember}
use Rattle.update_seed.specs.Price.{QueryCost, cost_of_all}
use Rattle.chain_growth.specs.Hops.{IsGrown}

-- The records without one.
abbrev pub without : Held → ℕ → Held
without records number = record records { vectors = map.remove records.vectors number }

-- The vector of a record, and the empty list where there is none.
abbrev pub vector_at : Held → ℕ → List ℕ
vector_at records number = unwrap_or (map.get records.vectors number) []

-- A core before of the cluster with this label, and none after.
pub record IsLostOf (d : Density) (before after : Entries) (l b : ℕ) : Type 0 where
  pub was_core : IsTrue (is_core d before b)
  pub no_core : is_core d after b ≡ false
  pub label : cluster_of d before b ≡ l

-- A core before and after, which had this label.
pub record IsKeptOf (d : Density) (before after : Entries) (l a : ℕ) : Type 0 where
  pub was_core : IsTrue (is_core d before a)
  pub is_core : IsTrue (is_core d after a)
  pub label : cluster_of d before a ≡ l

-- Such a core that was near a lost core of its cluster.
pub record IsSeedOf (d : Density) (before after : Entries) (l q : ℕ) : Type 0 where
  pub kept : IsKeptOf d before after l q
  pub beside : ℕ
  pub lost : IsLostOf d before after l beside
  pub is_near : IsTrue (is_near d before beside q)

-- A core that is grown from the seeds of a cluster which lost a core.
pub record IsGrownOf (d : Density) (before after : Entries) (a : ℕ) : Type 0 where
  pub label : ℕ
  pub beside : ℕ
  pub lost : IsLostOf d before after label beside
  pub grown :
      IsGrown (is_core d after) (is_near d after) (IsKeptOf d before after label)
      (IsSeedOf d before after label) a

-- Of what a deletion of p asks about, the others that are core no longer or never were.
abbrev pub outer_asked : Density → Entries → Entries → ℕ → List ℕ
outer_asked d before after p =
    filter (λ a. not (a == p) && not (is_core d after a)) (asked_of_deletion d before after p)

-- The price of a deletion of p with this vector: the search for it, a query at it, one at each of
-- the others asked that isn't core, one at each that is grown, and what the index takes. The first
-- cost is that of the index before, the others are those of the index after.
abbrev pub deletion_price : QueryCost → QueryCost → Held → ℕ → List ℕ → List ℕ → List ℕ → ℕ
deletion_price cost cost' records eps v others grown =
    cost v 0 + (cost' v eps
    + (cost_of_all cost' records eps others + (cost_of_all cost' records eps grown + 16384)))

-- What was counted is at most this price, whatever list has all that are grown.
abbrev pub IsPaid : Density → QueryCost → QueryCost → Held → ℕ → ℕ → ℕ → Type 0
IsPaid d cost cost' old p steps steps' =
    let new = without old p in
    let before = map.entries old.vectors in
    let after = map.entries new.vectors in
    (grown : List ℕ) → ((a : ℕ) → IsGrownOf d before after a → IsMember grown a)
    → steps' ≤ steps + deletion_price cost cost' new d.eps (vector_at old p)
    (outer_asked d before after p) grown

-- What was counted is at most what the index takes.
abbrev pub IsCheap : QueryCost → Held → ℕ → ℕ → ℕ → Type 0
IsCheap cost old p steps steps' = steps' ≤ steps + (16384 + cost (vector_at old p) 0)
