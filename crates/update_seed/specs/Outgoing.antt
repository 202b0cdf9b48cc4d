-- Lost cores, and what becomes of their clusters and of what hung on them.
use Rattle.std.specs.Prelude.{◌≡◌, ◌↔◌, ◌⊎◌, ℕ, ◌<◌, Bool, List, length, slice_get, find, Some, None, IsSome, IsTrue, IsSomeAnd}
use Rattle.std.specs.Option.{option_map}
use Rattle.std.specs.FinMap as map
use Rattle.vec_record.specs.Held.{Held}
use Rattle.count_book.specs.Counted.{Counted, IsCore, anchor_in, anchored}
use Rattle.label_book.specs.Labels.{Labels, IsMember, EachOnce}
use Rattle.update_seed.specs.declared.former.Former.{Former}
use Rattle.update_seed.specs.Books.{core_in}

-- One record is gone, and what is left around it is named, each once. The list names remaining
-- records, each once, that have a label but aren't core by their counts and have no anchor yet.
pub record AreOut
    (records : Held) (counts : Counted) (labels : Labels) (gone : ℕ)
    (around lost : List ℕ) : Type 0 where
  pub gone_absent : map.get records.vectors gone ≡ None
  pub around_once : EachOnce around
  pub lost_once : EachOnce lost
  pub there : (b : ℕ) → IsMember lost b → IsSome (map.get records.vectors b)
  pub labelled : (b : ℕ) → IsMember lost b → IsSome (map.get labels b)
  pub no_core : (b : ℕ) → IsMember lost b → IsCore counts b → ⊥
  pub unhung : (b : ℕ) → IsMember lost b → anchor_in (map.get counts.rows b) ≡ None

-- A lost core: it stands in the list, or it is the record that is gone, and that had a label.
abbrev pub IsLost : Labels → ℕ → List ℕ → ℕ → Type 0
IsLost labels gone lost b = IsMember lost b ⊎ ((b ≡ gone) × IsSome (map.get labels gone))

-- The record q is near b, or is one of those around the record that is gone, where b is that one.
abbrev pub IsNearLost : (ℕ → ℕ → Bool) → ℕ → List ℕ → ℕ → ℕ → Type 0
IsNearLost near gone around b q = IsTrue (near b q) ⊎ ((b ≡ gone) × IsMember around q)

-- A former cluster: all lost cores that had its label, and all cores with its label that are near
-- one of them, none twice.
pub record IsFormer
    (near : ℕ → ℕ → Bool) (counts : Counted) (labels : Labels) (gone : ℕ)
    (around lost : List ℕ) (f : Former) : Type 0 where
  pub some : 0 < length f.lost
  pub lost_are :
      (b : ℕ) → IsMember f.lost b
      ↔ (IsLost labels gone lost b × (map.get labels b ≡ Some f.label))
  pub lost_once : EachOnce f.lost
  pub seeds_are :
      (q : ℕ) → IsMember f.seeds q
      ↔ ((IsCore counts q × (map.get labels q ≡ Some f.label))
      × ((b : ℕ) × (IsMember f.lost b × IsNearLost near gone around b q)))
  pub seeds_once : EachOnce f.seeds

-- These are the former clusters with a lost core, by rising label.
pub record AreFormer
    (near : ℕ → ℕ → Bool) (counts : Counted) (labels : Labels) (gone : ℕ)
    (around lost : List ℕ) (list : List Former) : Type 0 where
  pub each :
      (j : ℕ) (f : Former) → slice_get list j ≡ Some f
      → IsFormer near counts labels gone around lost f
  pub all :
      (b : ℕ) → IsLost labels gone lost b
      → (j : ℕ) × ((f : Former) × ((slice_get list j ≡ Some f) × IsMember f.lost b))
  pub rising :
      (i j : ℕ) (f g : Former) → i < j → slice_get list i ≡ Some f → slice_get list j ≡ Some g
      → f.label < g.label

-- The record isn't core, and its anchor is a lost core that it is near.
abbrev pub IsLoose :
    (ℕ → ℕ → Bool) → Counted → Labels → ℕ → List ℕ → List ℕ → ℕ → Type 0
IsLoose near counts labels gone around lost q =
    (IsCore counts q → ⊥)
    × IsSomeAnd (anchor_in (map.get counts.rows q))
    (λ c. IsLost labels gone lost c × IsNearLost near gone around c q)

-- These are the records that hung on a lost core, each once.
pub record AreLoose
    (near : ℕ → ℕ → Bool) (counts : Counted) (labels : Labels) (gone : ℕ)
    (around lost loose : List ℕ) : Type 0 where
  pub exact : (q : ℕ) → IsMember loose q ↔ IsLoose near counts labels gone around lost q
  pub once : EachOnce loose

-- The book after each of these records was hung on the first core that is near it, or on none. All
-- else stays.
pub record AreHung
    (all_near : ℕ → List ℕ) (lost : List ℕ) (old new : Counted) : Type 0 where
  pub minpts_kept : new.minpts ≡ old.minpts
  pub hung :
      (q : ℕ) → IsMember lost q
      → map.get new.rows q
      ≡ option_map (anchored (find (core_in old) (all_near q))) (map.get old.rows q)
  pub others : (q : ℕ) → (IsMember lost q → ⊥) → map.get new.rows q ≡ map.get old.rows q
