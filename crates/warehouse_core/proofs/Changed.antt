-- What one change leaves of records and clusters, by the parameters of a store.
use Rattle.std.proofs.Common.{◌≡◌, ℕ, ◌+◌, ◌≤◌, List, ◌++◌, Result, Ok, Err, OnOk, IsTrue, unwrap_or, refl, ap, subst, ◌∙◌, arith}
use Rattle.std.specs.declared.option.Option.{Option}
use Rattle.vec_record.specs.Held.{Held}
use Rattle.vec_record.specs.Limits.{width_of}
use Rattle.vec_record.specs.declared.change.Change.{Change}
use Rattle.vec_record.specs.declared.event.Event.{Event}
use Rattle.plain_dbscan.specs.Cases.{cases_of}
use Rattle.plain_dbscan.specs.Marks.{Density, density}
use Rattle.page_layout.specs.Heads.{Values}
use Rattle.mtree_index.specs.Plain.{PlainTree}
use Rattle.mtree_index.specs.Tree.{IsInserted, after_insertion}
use Rattle.mtree_index.specs.Shrinking.{IsRemoved}
use Rattle.delete_case.specs.Told.{AreCasesTold}
use Rattle.kept_clusters.specs.Kept.{Kept, density_in, Fit, Stand, HasItsSetting}
use Rattle.tree_objects.specs.Laws.{AllPass, Passes}
use Rattle.tree_objects.proofs.Inserted.{inserted_keep}
use Rattle.tree_objects.proofs.Removed.{removed_keep}
use Rattle.vec_record.specs.Spelled.{is_spelled}
use Rattle.kept_clusters.specs.Paid.{tree_without}
use Rattle.batch_text.specs.Batch.{IsChangeOf, IsSpelledChange}
use Rattle.warehouse_core.specs.Batches.{density_by, marks_on}
use Rattle.warehouse_core.specs.Costs.{IsPaid}
use Rattle.warehouse_core.specs.Work.{held_after, work_of}
use Rattle.store_image.specs.Placing.{IsKept}
use Rattle.warehouse_core.specs.States.{StandBy}
use Rattle.warehouse_core.specs.Inside.{AreHeld}
use Rattle.warehouse_core.proofs.Applied.{held_changed}
use Rattle.warehouse_core.proofs.Found.{IsDistance, density_is, told_found, work_found}

both_ok : {T E A B C : Type 0} (r : Result T E) → (A → B → C) → OnOk r A → OnOk r B → OnOk r C
both_ok (Ok x) f a b = f a b
both_ok (Err e) f a b = tt

one_ok : {T E A B : Type 0} (r : Result T E) → (A → B) → OnOk r A → OnOk r B
one_ok (Ok x) f a = f a
one_ok (Err e) f a = tt

pub inserted_tree : {T E : Type 0} (r : Result T E) (dist : List ℕ → List ℕ → ℕ) (most : ℕ → ℕ) (before after : PlainTree) (n : ℕ) (w : List ℕ)
    → OnOk r (IsInserted dist most before after n w) → OnOk r (after ≡ after_insertion dist most n w before)
inserted_tree r dist most before after n w = one_ok r (λ is. is.tree)

pub removed_tree : {T E : Type 0} (r : Result T E) (dist : List ℕ → List ℕ → ℕ) (most : ℕ → ℕ) (before after : PlainTree) (n : ℕ) (w : List ℕ)
    → OnOk r (IsRemoved dist most before after n w) → OnOk r (after ≡ tree_without dist most n w before)
removed_tree r dist most before after n w = one_ok r (λ is. ap (λ (o : Option PlainTree). unwrap_or o before) is.tree)

-- what is kept is kept after a change, where its setting is the same and all in the tree are spelled
pub kept_still : {T E : Type 0} (r : Result T E) (v : Values) (records next : Held) (k k' : Kept) → IsKept v records k → OnOk r (HasItsSetting k k') → OnOk r (Fit next k') → OnOk r (AllPass (is_spelled v.metric v.dim) k'.tree) → OnOk r (IsKept v next k')
kept_still (Ok x) v records next k k' kept setting fits spelled = record {
  eps = setting.eps ∙ kept.eps;
  minpts = setting.minpts ∙ kept.minpts;
  fits = fits;
  spelled = spelled;
}
kept_still (Err e) v records next k k' kept setting fits spelled = tt

pub inserted_spelled : {T E : Type 0} (r : Result T E) (v : Values) (dist : List ℕ → List ℕ → ℕ) (most : ℕ → ℕ) (before after : PlainTree) (n : ℕ) (w : List ℕ)
    → OnOk r (IsInserted dist most before after n w) → IsTrue (is_spelled v.metric v.dim w) → AllPass (is_spelled v.metric v.dim) before → OnOk r (AllPass (is_spelled v.metric v.dim) after)
inserted_spelled r v dist most before after n w inserted spelled all =
    one_ok r (λ is. inserted_keep (Passes (is_spelled v.metric v.dim)) dist most before after n w is spelled all) inserted

pub removed_spelled : {T E : Type 0} (r : Result T E) (v : Values) (dist : List ℕ → List ℕ → ℕ) (most : ℕ → ℕ) (before after : PlainTree) (n : ℕ) (w : List ℕ)
    → OnOk r (IsRemoved dist most before after n w) → AllPass (is_spelled v.metric v.dim) before → OnOk r (AllPass (is_spelled v.metric v.dim) after)
removed_spelled r v dist most before after n w removed all =
    one_ok r (λ is. removed_keep (Passes (is_spelled v.metric v.dim)) dist most before after n w is all) removed

-- the records after a change are held
module _ {v : Values} {records : Held} (held : AreHeld v records) (c : Change) (fits : IsChangeOf (width_of v.metric v.dim) c) (spelled : IsSpelledChange v.metric v.dim c) where
  pub held_still : {T E : Type 0} (r : Result T E) (next : Held) → OnOk r (next ≡ held_after records c) → OnOk r (AreHeld v next)
  held_still r next is = one_ok r (λ (e : next ≡ held_after records c). held_changed v records next c held fits spelled e) is

module _ {dist : List ℕ → List ℕ → ℕ} {v : Values} {records : Held} {k : Kept} (by : StandBy dist v records k) (held : AreHeld v records) (law : IsDistance dist v)
    (c : Change) (fits : IsChangeOf (width_of v.metric v.dim) c) (spelled : IsSpelledChange v.metric v.dim c) where
  held_next : AreHeld v (held_after records c)
  held_next = held_changed v records (held_after records c) c held fits spelled refl

  -- what was counted is at most the price by the parameters, and the work by the metric
  pub priced : (most : ℕ → ℕ) (s t : ℕ) → IsPaid most (density_in dist k) k.tree records c s t → IsPaid most (density dist v.eps v.minpts) k.tree records c s t
  priced most s t paid = let P : Density → Type 0 = λ d. IsPaid most d k.tree records c s t in subst P (density_is by) paid

  pub worked : (s t : ℕ) → t ≤ s + work_of (density_in dist k) records c → t ≤ s + work_of (density_by v) records c
  worked s t work = let same = work_found by c held held_next law in omega (arith, work, same)

  module _ {T E : Type 0} (r : Result T E) (next : Held) (k' : Kept) (is : OnOk r (next ≡ held_after records c)) where
    pub stand_still : OnOk r (HasItsSetting k k') → OnOk r (Stand dist next k') → OnOk r (StandBy dist v next k')
    stand_still = both_ok r (λ (setting : HasItsSetting k k') (stand : Stand dist next k'). record {
      eps = setting.eps ∙ by.eps;
      minpts = setting.minpts ∙ by.minpts;
      stand = stand;
    })

    pub told_so : (out out' : List Event) → OnOk r (AreCasesTold (density_in dist k) records.vectors next.vectors out out')
        → OnOk r (out' ≡ out ++ cases_of (marks_on v records.vectors) (marks_on v next.vectors))
    told_so out out' told = both_ok r (λ (held' : AreHeld v next) (cases : AreCasesTold (density_in dist k) records.vectors next.vectors out out'). told_found by held law next held' out out' cases) (held_still held c fits spelled r next is) told
