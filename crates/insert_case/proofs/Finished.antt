-- An insertion that came to its end, or to a want of memory: each of its promises.
use Rattle.std.proofs.Common.{◌≡◌, ℕ, ◌+◌, ◌<◌, ◌≤◌, List, [], length, inl, inr, ◌⊎◌, sym, subst, Result, Ok, Err, OnErr, arith}
use Rattle.std.specs.FinMap as map
use Rattle.vec_record.specs.Held.{Held, Rows}
use Rattle.vec_record.specs.declared.event.Event.{Event}
use Rattle.plain_dbscan.specs.Marks.{Density, density}
use Rattle.count_book.specs.Counted.{Counted}
use Rattle.label_book.specs.Labels.{Labels, HasLeast}
use Rattle.update_seed.specs.declared.groups.InGroup.{InGroup}
use Rattle.update_seed.specs.Books.{IsHeld, Fits, StandsFor, near_in}
use Rattle.update_seed.specs.Groups.{AreNew, AreGathered, AreMerged, AreClusters}
use Rattle.update_seed.specs.Offers.{AreOffered}
use Rattle.update_seed.specs.Price.{QueryCost, cost_of_all}
use Rattle.insert_case.specs.Inserted.{with_record, IsPaid}
use Rattle.insert_case.specs.Joining.{AreAllJoined, AreJoinable, HaveLabels, AreToldNow}
use Rattle.insert_case.specs.Told.{AreNewCores, IsNoiseTold, AreEventsTold}
use Rattle.insert_case.specs.inside.Counting.{IsCountedIn}
use Rattle.insert_case.proofs.Paying.{paid, paid_all}
use Rattle.insert_case.proofs.Whole.{IsAdded, held, are_new, fits_all, stood_before, labels_stand, labels_stay, events_stand, noise_stands, cost_known, stands_all, nothing_offered, nothing_labelled}

module _ {dist : List ℕ → List ℕ → ℕ} {eps : ℕ} {records : Held} {p : ℕ} {v : List ℕ} {width width' : ℕ} {contents contents' : Rows} {old : Counted} {labels : Labels} {around : List ℕ}
    (added : IsAdded dist eps records p v width width' contents contents' old labels around) {records' : Held} (same : records' ≡ with_record records p v) where
  abbrev d : Density
  d = density dist eps old.minpts

  pub held_now : IsHeld width' contents' records'
  held_now = subst (IsHeld width' contents') (sym same) (held added)

  module _ {new : Counted} {cores : List ℕ} (counted : IsCountedIn labels p around old new) (are : AreNewCores old new cores) where
    pub new_now : AreNew records' new labels cores
    new_now = subst (λ r. AreNew r new labels cores) (sym same) (are_new added counted are)

    pub joinable : {groups : List InGroup} → AreGathered labels cores groups → AreJoinable labels groups
    joinable gathered = record { cores = cores; gathered = gathered; free = new_now.free }

    offered_by : {final : Counted} → AreOffered (near_in dist eps records') labels cores new final → AreOffered (near_in dist eps (with_record records p v)) labels cores new final
    offered_by {final = final} offered = subst (λ r. AreOffered (near_in dist eps r) labels cores new final) same offered

    module _ {final : Counted} {labels' : Labels} {groups : List InGroup} (offered : AreOffered (near_in dist eps records') labels cores new final) (gathered : AreGathered labels cores groups)
        (labelled : HaveLabels labels groups labels') (least : HasLeast labels') where
      pub end_fits : Fits width' contents' records' final labels'
      end_fits = subst (λ r. Fits width' contents' r final labels') (sym same) (fits_all added counted are (offered_by offered) (labelled cores gathered) least)

      module _ (stood : StandsFor d width contents records old labels) (merged : AreMerged dist eps records' labels cores groups) (joined : AreAllJoined labels groups labels') where
        clusters : AreClusters d (map.entries (map.insert records.vectors p v)) labels groups
        clusters = (subst (λ r. AreMerged dist eps r labels cores groups) same merged) old.minpts records.vectors (stood_before added counted are stood)

        pub end_stands : StandsFor d width' contents' records' final labels'
        end_stands =
            subst (λ r. StandsFor d width' contents' r final labels') (sym same)
            (stands_all added counted are stood (fits_all added counted are (offered_by offered) (labelled cores gathered) least) (offered_by offered) (labels_stand added counted are stood gathered clusters joined))

        pub end_told : {out out' : List Event} → 0 < length cores → AreToldNow groups out out' → AreEventsTold d records.vectors records'.vectors out out'
        end_told {out = out} {out' = out'} some told =
            subst (λ (r : Held). AreEventsTold d records.vectors r.vectors out out') (sym same)
            (events_stand added counted are stood some gathered clusters joined told)

    pub end_price : StandsFor d width contents records old labels → (cost : QueryCost) (s0 s2 s3 : ℕ) → s2 ≤ s0 + (cost v eps + 16384) → s3 ≤ s2 + cost_of_all cost records' eps cores → IsPaid d cost records p v s0 s3
    end_price stood cost s0 s2 s3 h k =
        let k' = subst (λ (r : Held). s3 ≤ s2 + cost_of_all cost r eps cores) same k in
        paid_all d cost records p v cores s0 (s0 + 16384) s2 s3 (omega arith) (omega (arith, h)) k' (cost_known added counted are stood cost)

    module _ (empty : cores ≡ []) where
      pub none_fits : Fits width' contents' records' new labels
      none_fits =
          subst (λ r. Fits width' contents' r new labels) (sym same)
          (fits_all added counted are (nothing_offered added counted are empty (near_in dist eps (with_record records p v))) (nothing_labelled added counted are empty) added.fits.least)

      pub none_stands : StandsFor d width contents records old labels → StandsFor d width' contents' records' new labels
      none_stands stood =
          let offered = nothing_offered added counted are empty (near_in dist eps (with_record records p v)) in
          subst (λ r. StandsFor d width' contents' r new labels) (sym same)
          (stands_all added counted are stood (fits_all added counted are offered (nothing_labelled added counted are empty) added.fits.least) offered (labels_stay added counted are stood empty))

      pub none_told : (out out' : List Event) → StandsFor d width contents records old labels → IsNoiseTold p out out' → AreEventsTold d records.vectors records'.vectors out out'
      none_told out out' stood told =
          subst (λ (r : Held). AreEventsTold d records.vectors r.vectors out out') (sym same) (noise_stands added counted are stood out out' empty told)

-- what the query alone costs
pub first_price : (d : Density) (cost : QueryCost) (records : Held) (p : ℕ) (v : List ℕ) (s0 s2 : ℕ) → s2 ≤ s0 + (cost v d.eps + 16384) → IsPaid d cost records p v s0 s2
first_price d cost records p v s0 s2 h = paid d cost records p v s0 (s0 + 16384) s2 (omega arith) (omega (arith, h))

-- what stands after a want of memory
pub err_index : {T E A B C : Type 0} (r : Result T E) → (A × B) ⊎ C → OnErr r (A ⊎ C)
err_index (Ok x) h = tt
err_index (Err e) (inl h) = inl h.0
err_index (Err e) (inr h) = inr h

pub err_first : {T E A B C P : Type 0} (r : Result T E) → (A × B) ⊎ C → (B → P) → OnErr r (P ⊎ C)
err_first (Ok x) h f = tt
err_first (Err e) (inl h) f = inl (f h.1)
err_first (Err e) (inr h) f = inr h

pub err_left : {T E A : Type 0} (r : Result T E) (B : Type 0) → A → OnErr r (A ⊎ B)
err_left (Ok x) B h = tt
err_left (Err e) B h = inl h
