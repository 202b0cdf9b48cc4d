-- What an accepted batch leaves, and what a crash leaves at each moment of its saving.
use Rattle.std.proofs.Common.{◌≡◌, ◌⊎◌, inl, inr, ℕ, ◌+◌, ◌++◌, Bool, true, false, List, count_by, Result, Ok, refl, sym, ap, subst, ◌∙◌, codes}
use Rattle.vec_record.specs.Held.{Held, Rows}
use Rattle.vec_record.specs.declared.change.Change.{Change}
use Rattle.vec_record.specs.declared.event.Event.{Event}
use Rattle.kept_clusters.specs.Kept.{with_tags}
use Rattle.site_disk.specs.State.{SiteState}
use Rattle.page_gate.specs.Gate.{opening, Opens}
use Rattle.store_image.specs.declared.loaded.Places.{Places}
use Rattle.store_image.specs.Images.{Image}
use Rattle.store_image.specs.Loading.{load_of}
use Rattle.store_image.specs.Placing.{ArePagesOf, IsPaged, bodies_on, image_on, saved_laid, saved_on}
use Rattle.store_image.specs.Stores.{AreDueIn, IsStore, LoadsAreStores}
use Rattle.warehouse_core.specs.declared.refusal.Refusal.{Refusal}
use Rattle.warehouse_core.specs.Applying.{Accepts, IsAfter, IsBefore, IsSavedAs, Steps, due}
use Rattle.warehouse_core.specs.Batches.{events_of, rows_after}
use Rattle.warehouse_core.specs.Inside.{Saves, state_of}
use Rattle.warehouse_core.specs.Receipts.{batch_text, decline_text, growth_text, is_deletion, is_insertion, receipt_text}
use Rattle.warehouse_core.specs.States.{State, IsClustered}
use Rattle.warehouse_core.proofs.Moments.{is_stored, opened_before, weaker}

module _ (changes : List Change) (was saved is : Image) (places places' : Places) (before after : List (List ℕ)) (paged : IsPaged was.head places before)
    (head_is : saved.head ≡ was.head) (rows_are : saved.records.vectors ≡ rows_after was.head.values was.records.vectors changes)
    (pages_are : after ≡ saved_on was.head before saved.records.vectors saved.kept) (image_is : is ≡ image_on was.head before saved.records saved.kept) where
  values_are : is.head.values ≡ was.head.values
  values_are = ap (λ (i : Image). i.head.values) image_is

  records_are : is.records ≡ saved.records
  records_are = ap (λ (i : Image). i.records) image_is

  vectors_are : is.records.vectors ≡ saved.records.vectors
  vectors_are = ap (λ (h : Held). h.vectors) records_are

  batches_are : is.head.batches ≡ was.head.batches + 1
  batches_are = ap (λ (i : Image). i.head.batches) image_is

  module _ (stored failed : Bool) (w : State) (view : state_of was before stored failed ≡ w) where
    placed : IsSavedAs saved.kept w (state_of is after stored false)
    placed =
        let P : State → Type 0 = λ x. ArePagesOf was.head (bodies_on was.head before) x.pages in
        record {
          head = was.head;
          bodies = bodies_on was.head before;
          were = subst P view paged.are;
          pages = pages_are ∙ ap (λ (rows : Rows). saved_on was.head before rows saved.kept) (sym vectors_are);
          kept =
              ap (λ (i : Image). i.kept) image_is
              ∙ ap (λ (rows : Rows). with_tags (saved_laid was.head.values (bodies_on was.head before) rows saved.kept).refs saved.kept) (sym vectors_are);
        }

    module _ (text more : List ℕ) (body : List ℕ) (has : w.stored ≡ true) (accepted : due w body ≡ Ok changes)
        (clustered : IsClustered w → IsClustered (state_of is after stored false))
        (receipt : IsClustered w → more ≡ text ++ receipt_text (was.head.batches + 1) changes (events_of was.head.values was.records.vectors changes))
        (loads : IsClustered (state_of is after stored false) → load_of after ≡ Ok is)
        (due_are : IsClustered (state_of is after stored false) → AreDueIn after) where
      pub accepts : Accepts body w (state_of is after stored false) text more
      accepts = record {
        changes = changes;
        accepted = accepted;
        values = values_are ∙ ap (λ (x : State). x.values) view;
        rows = vectors_are ∙ rows_are ∙ ap (λ (x : State). rows_after x.values x.rows changes) view;
        batches = batches_are ∙ ap (λ (x : State). x.batches + 1) view;
        stored = is_stored was before stored failed w view has;
        failed = refl;
        before = saved.kept;
        pages = placed;
        clustered = clustered;
        receipt = λ is. receipt is ∙ ap (λ (x : State). text ++ receipt_text (x.batches + 1) changes (events_of x.values x.rows changes)) view;
        loads = λ by. record { image = is; loads = loads by; values_are = refl; rows_are = refl; batches_are = refl };
        due_are = due_are;
      }

-- the receipt of a batch, by its counts
pub counted_receipt : (batch insertions deletions : ℕ) (changes : List Change) (events due_events : List Event) (line : List ℕ) → line ≡ batch_text batch insertions deletions ++ (growth_text events ++ (decline_text events ++ codes "\n"))
    → insertions ≡ count_by is_insertion changes → deletions ≡ count_by is_deletion changes → events ≡ due_events → line ≡ receipt_text batch changes due_events
counted_receipt batch insertions deletions changes events due_events line is ins del evs =
    is
    ∙ (ap (λ (n : ℕ). batch_text batch n deletions ++ (growth_text events ++ (decline_text events ++ codes "\n"))) ins
    ∙ (ap (λ (n : ℕ). batch_text batch (count_by is_insertion changes) n ++ (growth_text events ++ (decline_text events ++ codes "\n"))) del
    ∙ ap (receipt_text batch changes) evs))

-- the moments of a saving
module _ (law : LoadsAreStores) (was : Image) (before : List (List ℕ)) (loads : load_of before ≡ Ok was) (are_due : AreDueIn before) (changes : List Change) (rows : Rows)
    (rows_are : rows ≡ rows_after was.head.values was.records.vectors changes) where
  module _ (after : List (List ℕ)) (result : Result Unit Refusal) (a b : SiteState) (saves : Saves before was.head.values rows (was.head.batches + 1) after result a b) where
    crossed : (stored failed : Bool) (body : List ℕ) → due (state_of was before stored failed) body ≡ Ok changes → Steps body result (state_of was before stored failed) a b
    crossed stored failed body accepted =
        let w = state_of was before stored failed in
        let R : Rows → Type 0 = λ r. (c : List ℕ) → IsStore was.head.values r (was.head.batches + 1) c → IsAfter body w c in
        let later : R rows = subst R (sym rows_are) (λ c store. record { changes = changes; accepted = accepted; store = store }) in
        let sooner : (c : List ℕ) → opening c ≡ Opens before → IsBefore w c = λ c opens. opened_before law was before loads are_due stored failed w c refl opens in
        let either : (c : List ℕ) → (opening c ≡ Opens before) ⊎ IsStore was.head.values rows (was.head.batches + 1) c → IsBefore w c ⊎ IsAfter body w c = λ c e. elim e [ inl x ↦ inl (sooner c x) | inr y ↦ inr (later c y) ] in
        record {
          safe = weaker a b (λ s c. (s ≡ a.said) × ((opening c ≡ Opens before) ⊎ IsStore was.head.values rows (was.head.batches + 1) c)) (λ s c. (s ≡ a.said) × (IsBefore w c ⊎ IsAfter body w c)) saves.safe (λ s c m. (m.0, either c m.1));
          said = saves.said;
          unsaved = λ want. weaker a b (λ s c. (s ≡ a.said) × (opening c ≡ Opens before)) (λ s c. (s ≡ a.said) × IsBefore w c) (saves.unsaved want) (λ s c m. (m.0, sooner c m.1));
        }

    pub saved_steps : (stored failed : Bool) (w : State) (body : List ℕ) → state_of was before stored failed ≡ w → due w body ≡ Ok changes → Steps body result w a b
    saved_steps stored failed w body view accepted =
        let P : State → Type 0 = λ x. due x body ≡ Ok changes → Steps body result x a b in
        subst P view (crossed stored failed body) accepted
