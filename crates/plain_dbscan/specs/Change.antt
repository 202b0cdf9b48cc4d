-- What one more record changes. Read backwards it is what a deletion changes.
use Rattle.std.specs.Prelude.{◌≡◌, ◌≢◌, ◌↔◌, ℕ, ◌+◌, ◌≤◌, Bool, false, List, Some, None, IsTrue, if◌then◌else◌}
use Rattle.std.specs.Ordering.{nat_cmp}
use Rattle.std.specs.BTreeSet.{insert_key}
use Rattle.std.specs.FinMap.{get, insert, remove, entries}
use Rattle.std.specs.FinMap.Entries.{is_sorted, put, find as value_at}
use lib.Dec.{T}
use Rattle.vec_record.specs.Held.{Rows}
use Rattle.plain_dbscan.specs.Chains.{Joined, IsLabel}
use Rattle.plain_dbscan.specs.Marks.{Density, Entries, is_near, near_of, size_of, is_core, cluster_of}

-- Each core before is a core after, and two such are near each other after exactly where they were.
pub record IsWithin
    (core : ℕ → Bool) (near : ℕ → ℕ → Bool) (core' : ℕ → Bool) (near' : ℕ → ℕ → Bool) : Type 0 where
  pub cores : (a : ℕ) → IsTrue (core a) → IsTrue (core' a)
  pub agree : (a b : ℕ) → IsTrue (core a) → IsTrue (core b) → near a b ≡ near' a b

-- Each core that is joined with this one after was a core before.
abbrev pub HasNoNew : (ℕ → Bool) → (ℕ → Bool) → (ℕ → ℕ → Bool) → ℕ → Type 0
HasNoNew core core' near' a = (c : ℕ) → Joined core' near' a c → IsTrue (core c)

-- What more cores change: what is joined stays joined, labels fall or stay, and a class without a
-- new core keeps its members and its label.
pub record AreGrown
    (core : ℕ → Bool) (near : ℕ → ℕ → Bool) (core' : ℕ → Bool) (near' : ℕ → ℕ → Bool) : Type 0 where
  pub joined : (a b : ℕ) → Joined core near a b → Joined core' near' a b
  pub lower : (a k l : ℕ) → IsLabel core near a k → IsLabel core' near' a l → l ≤ k
  pub kept :
      (a b : ℕ) → HasNoNew core core' near' a → Joined core' near' a b ↔ Joined core near a b
  pub label :
      (a l : ℕ) → HasNoNew core core' near' a → IsLabel core' near' a l ↔ IsLabel core near a l

-- So it is whatever the cores are.
abbrev pub MoreCores : Type 0
MoreCores =
    (core : ℕ → Bool) (near : ℕ → ℕ → Bool) (core' : ℕ → Bool) (near' : ℕ → ℕ → Bool)
    → IsWithin core near core' near' → AreGrown core near core' near'

-- The records after are those before and one more, p with the vector v.
pub record HasOneMore (p : ℕ) (v : List ℕ) (before after : Entries) : Type 0 where
  pub sorted : T (is_sorted nat_cmp before)
  pub absent : value_at nat_cmp p before ≡ None
  pub is : after ≡ put nat_cmp p v before

-- Among the records after, each core that is joined with this one was a core before.
abbrev pub IsApart : Density → Entries → Entries → ℕ → Type 0
IsApart d before after a = HasNoNew (is_core d before) (is_core d after) (is_near d after) a

-- The numbers near a record, and p in its place where p is near it.
abbrev pub with_one : Bool → ℕ → List ℕ → List ℕ
with_one is p others = if is then insert_key nat_cmp others p else others

-- What the record p changes of the others: what is near them, their sizes, cores and labels.
pub record ChangesByOne (d : Density) (p : ℕ) (before after : Entries) : Type 0 where
  pub near : (a b : ℕ) → a ≢ p → b ≢ p → is_near d after a b ≡ is_near d before a b
  pub gains :
      (a : ℕ) → a ≢ p → near_of d after a ≡ with_one (is_near d after a p) p (near_of d before a)
  pub size :
      (a : ℕ) → a ≢ p
      → size_of d after a ≡ size_of d before a + (if is_near d after a p then 1 else 0)
  pub within : IsWithin (is_core d before) (is_near d before) (is_core d after) (is_near d after)
  pub new :
      (a : ℕ) → a ≢ p → is_core d before a ≡ false
      → IsTrue (is_core d after a) → IsTrue (is_near d after a p)
  pub lower :
      (a : ℕ) → IsTrue (is_core d before a) → cluster_of d after a ≤ cluster_of d before a
  pub kept :
      (a : ℕ) → IsTrue (is_core d before a) → IsApart d before after a
      → cluster_of d after a ≡ cluster_of d before a

abbrev pub OneMoreRecord : Type 0
OneMoreRecord =
    (d : Density) (p : ℕ) (v : List ℕ) (before after : Entries)
    → HasOneMore p v before after → ChangesByOne d p before after

-- Records have one more after an insertion, and had one more before a deletion.
pub record AreChanged (rows : Rows) (p : ℕ) (v : List ℕ) : Type 0 where
  pub inserted :
      get rows p ≡ None → HasOneMore p v (entries rows) (entries (insert rows p v))
  pub removed :
      get rows p ≡ Some v → HasOneMore p v (entries (remove rows p)) (entries rows)

abbrev pub ChangesAreOne : Type 0
ChangesAreOne = (rows : Rows) (p : ℕ) (v : List ℕ) → AreChanged rows p v
