-- Numbers beside their labels, and how a list of them splits by label.
use Rattle.std.specs.Prelude.{◌≡◌, ◌↔◌, ℕ, ◌<◌, ◌≤◌, List, [], ◌∷◌, ◌++◌, length, map, slice_get, None, Some}
use Rattle.std.specs.FinMap as finite
use Rattle.label_book.specs.Labels.{Labels, IsMember, EachOnce}
use Rattle.update_seed.specs.declared.labelled.Labelled.{Labelled}
use Rattle.update_seed.specs.declared.former.Former.{Former}
use Rattle.update_seed.specs.Outgoing.{IsLost}
use Rattle.update_seed.specs.inside.Ties.{IsRising}

-- the numbers without their labels
abbrev pub numbers_of : List Labelled → List ℕ
numbers_of list = map (λ (p : Labelled). p.number) list

-- the number stands in the list beside this label
abbrev pub Has : List Labelled → ℕ → ℕ → Type 0
Has list label q =
    (k : ℕ)
    × ((p : Labelled) × ((slice_get list k ≡ Some p) × ((p.label ≡ label) × (p.number ≡ q))))

-- each number stands beside the label that it has in the book
abbrev pub AreLabelled : Labels → List Labelled → Type 0
AreLabelled m list =
    (k : ℕ) (p : Labelled) → slice_get list k ≡ Some p → finite.get m p.number ≡ Some p.label

-- no label is above a later one
abbrev pub IsByLabel : List Labelled → Type 0
IsByLabel list =
    (i j : ℕ) (p r : Labelled) → i ≤ j → slice_get list i ≡ Some p → slice_get list j ≡ Some r
    → p.label ≤ r.label

-- the second list has what the first one has, and no number twice where the first one hasn't
pub record IsReordered (xs ys : List Labelled) : Type 0 where
  pub same : (label q : ℕ) → Has xs label q ↔ Has ys label q
  pub once : EachOnce (numbers_of xs) → EachOnce (numbers_of ys)

-- the numbers with this label
pub record AreUnder (list : List Labelled) (label : ℕ) (numbers : List ℕ) : Type 0 where
  pub are : (q : ℕ) → IsMember numbers q ↔ Has list label q
  pub once : EachOnce (numbers_of list) → EachOnce numbers

-- the labels of the list, each once
pub record AreLabelsOf (list : List Labelled) (labels : List ℕ) : Type 0 where
  pub rising : IsRising labels
  pub are : (l : ℕ) → IsMember labels l ↔ ((q : ℕ) × Has list l q)

-- lost cores and seeds by their labels, one former cluster for each label of a lost core
pub record AreSplit (lost seeds : List Labelled) (list : List Former) : Type 0 where
  pub lost_are :
      (j : ℕ) (f : Former) → slice_get list j ≡ Some f → AreUnder lost f.label f.lost
  pub seeds_are :
      (j : ℕ) (f : Former) → slice_get list j ≡ Some f → AreUnder seeds f.label f.seeds
  pub some : (j : ℕ) (f : Former) → slice_get list j ≡ Some f → (q : ℕ) × Has lost f.label q
  pub all :
      (l q : ℕ) → Has lost l q
      → (j : ℕ) × ((f : Former) × ((slice_get list j ≡ Some f) × (f.label ≡ l)))
  pub rising :
      (i j : ℕ) (f g : Former) → i < j → slice_get list i ≡ Some f → slice_get list j ≡ Some g
      → f.label < g.label

-- the lost cores beside their labels, each once
pub record AreLost
    (labels : Labels) (gone : ℕ) (lost : List ℕ) (list : List Labelled) : Type 0 where
  pub labelled : AreLabelled labels list
  pub are : (b : ℕ) → IsMember (numbers_of list) b ↔ IsLost labels gone lost b
  pub once : EachOnce (numbers_of list)

-- a number was put beside its label behind the others, where it has one
pub record IsPut (labels : Labels) (number : ℕ) (old new : List Labelled) : Type 0 where
  pub there :
      (l : ℕ) → finite.get labels number ≡ Some l
      → new ≡ old ++ record { label = l; number = number } ∷ []
  pub absent : finite.get labels number ≡ None → new ≡ old

-- the numbers at the places from one on and before another
pub record IsPart (list : List Labelled) (start end : ℕ) (numbers : List ℕ) : Type 0 where
  pub are :
      (q : ℕ) → IsMember numbers q
      ↔ ((k : ℕ) × ((start ≤ k) × ((k < end) × (slice_get (numbers_of list) k ≡ Some q))))
  pub once : EachOnce (numbers_of list) → EachOnce numbers

-- the label stands before a place
abbrev pub HasBefore : List Labelled → ℕ → ℕ → Type 0
HasBefore list i l =
    (k : ℕ) × ((k < i) × ((p : Labelled) × ((slice_get list k ≡ Some p) × (p.label ≡ l))))

-- the labels before a place, each once
pub record AreLabelsBefore (list : List Labelled) (i : ℕ) (labels : List ℕ) : Type 0 where
  pub rising : IsRising labels
  pub are : (l : ℕ) → IsMember labels l ↔ HasBefore list i l

-- the former clusters of the first labels
pub record AreMade
    (lost seeds : List Labelled) (labels : List ℕ) (i : ℕ) (list : List Former) : Type 0 where
  pub long : length list ≡ i
  pub label :
      (j : ℕ) (f : Former) → slice_get list j ≡ Some f → slice_get labels j ≡ Some f.label
  pub lost_are :
      (j : ℕ) (f : Former) → slice_get list j ≡ Some f → AreUnder lost f.label f.lost
  pub seeds_are :
      (j : ℕ) (f : Former) → slice_get list j ≡ Some f → AreUnder seeds f.label f.seeds
