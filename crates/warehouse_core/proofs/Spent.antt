-- What changes cost a warehouse, from what they cost its records and clusters.
use Rattle.std.proofs.Common.{◌≡◌, ℕ, ◌+◌, ◌≤◌, Bool, List, Result, Ok, Err, IfOk, subst, arith}
use Rattle.vec_record.specs.Held.{Held}
use Rattle.vec_record.specs.Limits.{width_of}
use Rattle.vec_record.specs.declared.change.Change.{Change}
use Rattle.plain_dbscan.specs.Marks.{Density, density}
use Rattle.mtree_index.specs.Plain.{PlainTree}
use Rattle.store_image.specs.Images.{Image}
use Rattle.warehouse_core.specs.Batches.{density_by}
use Rattle.warehouse_core.specs.Costs.{ArePaid, tree_after_all}
use Rattle.warehouse_core.specs.Work.{work_of_all}
use Rattle.warehouse_core.specs.Inside.{state_of}
use Rattle.warehouse_core.specs.States.{State, held_in}
use Rattle.warehouse_core.proofs.Applied.{nothing_paid}

-- what holds whatever the value is
pub always : {T E : Type 0} (r : Result T E) (P : T → Type 0) → ((x : T) → P x) → IfOk r P
always (Ok x) P f = f x
always (Err e) P f = tt

pub never_paid : {E : Type 0} (r : Result (List Change) E) (most : ℕ → ℕ) (d : Density) (tree : PlainTree) (records : Held) (steps : ℕ) → IfOk r (λ changes. ArePaid most d tree records changes steps steps)
never_paid r most d tree records steps = always r (λ changes. ArePaid most d tree records changes steps steps) (λ changes. nothing_paid most d tree records changes steps)

pub never_worked : {E : Type 0} (r : Result (List Change) E) (d : Density) (records : Held) (steps : ℕ) → IfOk r (λ changes. steps ≤ steps + work_of_all d records changes)
never_worked r d records steps = always r (λ changes. steps ≤ steps + work_of_all d records changes) (λ changes. omega arith)

module _ (s : Image) (pages : List (List ℕ)) (stored failed : Bool) (w : State) (view : state_of s pages stored failed ≡ w)
    (width : s.records.width ≡ width_of s.head.values.metric s.head.values.dim) (changes : List Change) (a b : ℕ) where
  same_records : s.records ≡ held_in (state_of s pages stored failed)
  same_records = λ i. record { width = width i; vectors = s.records.vectors }

  pub paid_here : (dist : List ℕ → List ℕ → ℕ) (most : ℕ → ℕ) → ArePaid most (density dist s.head.values.eps s.head.values.minpts) s.kept.tree s.records changes a b
      → ArePaid most (density dist w.values.eps w.values.minpts) w.kept.tree (held_in w) changes a b
  paid_here dist most paid =
      let P : State → Type 0 = λ x. ArePaid most (density dist x.values.eps x.values.minpts) x.kept.tree (held_in x) changes a b in
      let Q : Held → Type 0 = λ h. ArePaid most (density dist s.head.values.eps s.head.values.minpts) s.kept.tree h changes a b in
      subst P view (subst Q same_records paid)

  pub worked_here : b ≤ a + work_of_all (density_by s.head.values) s.records changes → b ≤ a + work_of_all (density_by w.values) (held_in w) changes
  worked_here worked =
      let P : State → Type 0 = λ x. b ≤ a + work_of_all (density_by x.values) (held_in x) changes in
      let Q : Held → Type 0 = λ h. b ≤ a + work_of_all (density_by s.head.values) h changes in
      subst P view (subst Q same_records worked)

  pub tree_here : (dist : List ℕ → List ℕ → ℕ) (most : ℕ → ℕ) (tree : PlainTree) → tree ≡ tree_after_all dist most s.records changes s.kept.tree → tree ≡ tree_after_all dist most (held_in w) changes w.kept.tree
  tree_here dist most tree is =
      let P : State → Type 0 = λ x. tree ≡ tree_after_all dist most (held_in x) changes x.kept.tree in
      let Q : Held → Type 0 = λ h. tree ≡ tree_after_all dist most h changes s.kept.tree in
      subst P view (subst Q same_records is)
