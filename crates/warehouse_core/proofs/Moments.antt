-- What the images of a site are, before a batch is written.
use Rattle.std.proofs.Common.{◌≡◌, ◌⊎◌, inl, inr, ℕ, Bool, true, false, List, Result, Ok, Err, OnOk, refl, sym, ap, subst, ◌∙◌}
use Rattle.vec_record.specs.Distance.{distance_of}
use Rattle.vec_record.specs.Held.{Held, Rows}
use Rattle.vec_record.specs.Limits.{width_of}
use Rattle.page_layout.specs.Heads.{Values}
use Rattle.vec_record.specs.declared.kind.MetricKind.{MetricKind}
use Rattle.site_disk.specs.State.{SiteState, IsNow, Safe}
use Rattle.site_disk.proofs.Moments.{start}
use Rattle.page_gate.specs.Gate.{opening, Opens}
use Rattle.page_gate.specs.Promises.{Holds, Commits}
use Rattle.page_gate.specs.Writes.{written}
use Rattle.store_image.specs.declared.loaded.Places.{Places}
use Rattle.page_layout.specs.Heads.{HeadValue}
use Rattle.store_image.specs.declared.fault.StoreFault.{StoreFault}
use Rattle.store_image.specs.Images.{Image}
use Rattle.store_image.specs.Loading.{and_then, head_in_pages, load_of, params_in_pages, values_of_head}
use Rattle.store_image.specs.Stores.{AreDueIn, IsStore, LoadsAreStores}
use Rattle.warehouse_core.specs.declared.refusal.Refusal.{Refusal}
use Rattle.warehouse_core.specs.declared.refusal.Refusal.TheVariants.{Memory, SiteFault}
use Rattle.warehouse_core.specs.States.{State, StandBy, IsClustered, held_in}
use Rattle.warehouse_core.specs.Inside.{Saves, Stands, state_of}
use Rattle.warehouse_core.specs.Applying.{IsBefore, Steps}

-- a warehouse that hasn't failed stands
pub stands : (dist : List ℕ → List ℕ → ℕ) (kind : MetricKind) (i : Image) (places : Places) (pages : List (List ℕ)) (stored failed : Bool) (w : State) → (failed ≡ false → Stands dist kind stored i places pages) → state_of i pages stored failed ≡ w → w.failed ≡ false
    → Stands dist kind stored i places pages
stands dist kind i places pages stored failed w whole view not_failed = whole (ap (λ (x : State). x.failed) view ∙ not_failed)

-- and it has a store where it says so
pub is_stored : (i : Image) (pages : List (List ℕ)) (stored failed : Bool) (w : State) → state_of i pages stored failed ≡ w → w.stored ≡ true → stored ≡ true
is_stored i pages stored failed w view has = ap (λ (x : State). x.stored) view ∙ has

-- what is clustered as a warehouse is clustered inside it, and the other way round
module _ (i : Image) (pages : List (List ℕ)) (stored failed : Bool) (w : State) (view : state_of i pages stored failed ≡ w) (width : i.records.width ≡ width_of i.head.values.metric i.head.values.dim) where
  same_records : held_in (state_of i pages stored failed) ≡ i.records
  same_records j = record { width = sym width j; vectors = i.records.vectors }

  pub inside : IsClustered w → StandBy (distance_of i.head.values.metric) i.head.values i.records i.kept
  inside is =
      let P : Held → Type 0 = λ h. StandBy (distance_of i.head.values.metric) i.head.values h i.kept in
      subst P same_records (subst IsClustered (sym view) is)

  pub outside : StandBy (distance_of i.head.values.metric) i.head.values i.records i.kept → IsClustered w
  outside by =
      let P : Held → Type 0 = λ h. StandBy (distance_of i.head.values.metric) i.head.values h i.kept in
      subst IsClustered view (subst P (sym same_records) by)

module _ (law : LoadsAreStores) (i : Image) (pages : List (List ℕ)) (loads : load_of pages ≡ Ok i) (due : AreDueIn pages) where
  opened : (stored failed : Bool) (c : List ℕ) → opening c ≡ Opens pages → IsBefore (state_of i pages stored failed) c
  opened stored failed c opens = law c pages i opens loads due

  -- a content with its pages is the store as it is
  pub opened_before : (stored failed : Bool) (w : State) (c : List ℕ) → state_of i pages stored failed ≡ w → opening c ≡ Opens pages → IsBefore w c
  opened_before stored failed w c view opens = let P : State → Type 0 = λ x. IsBefore x c in subst P view (opened stored failed c opens)

  held_pages : (stored failed : Bool) (w : State) (a : SiteState) (c : List ℕ) → state_of i pages stored failed ≡ w → Holds w.pages a → a.may_leave c → opening c ≡ Opens pages
  held_pages stored failed w a c view holds may = ap opening (holds.only c may) ∙ holds.list ∙ ap (λ (x : State). Opens x.pages) (sym view)

  -- nothing was written
  pub unwritten : (body : List ℕ) (result : Result Unit Refusal) (stored failed : Bool) (w : State) (a : SiteState) → state_of i pages stored failed ≡ w → Holds w.pages a → IsNow a → Steps body result w a a
  unwritten body result stored failed w a view holds now =
      let before : (c : List ℕ) → a.may_leave c → IsBefore w c = λ c may. opened_before stored failed w c view (held_pages stored failed w a c view holds may) in
      record {
        safe = start now (λ c may. (refl, inl (before c may)));
        said = refl;
        unsaved = λ _. start now (λ c may. (refl, before c may));
      }

-- a weaker promise of the moments
pub weaker : (a b : SiteState) (P Q : List ℕ → List ℕ → Type 0) → Safe a b P → ((s c : List ℕ) → P s c → Q s c) → Safe a b Q
weaker a b P Q safe f = record {
  joins = safe.joins;
  each = λ s c had. f s c (safe.each s c had);
  now = λ c may. f b.said c (safe.now c may);
}

module _ (law : LoadsAreStores) (old new : List (List ℕ)) (image : Image) (values : Values) (rows : Rows) (batches : ℕ) (loads : load_of new ≡ Ok image) (due : AreDueIn new)
    (values_are : image.head.values ≡ values) (rows_are : image.records.vectors ≡ rows) (batches_are : image.head.batches ≡ batches) where
  new_store : (c : List ℕ) → opening c ≡ Opens new → IsStore values rows batches c
  new_store c opens =
      let is = law c new image opens loads due in
      let P : Values → Type 0 = λ v. IsStore v image.records.vectors image.head.batches c in
      let Q : Rows → Type 0 = λ r. IsStore values r image.head.batches c in
      let R : ℕ → Type 0 = λ n. IsStore values rows n c in
      subst R batches_are (subst Q rows_are (subst P values_are is))

  either_store : (c : List ℕ) → (opening c ≡ Opens old) ⊎ (opening c ≡ Opens new) → (opening c ≡ Opens old) ⊎ IsStore values rows batches c
  either_store c (inl was) = inl was
  either_store c (inr is) = inr (new_store c is)

  -- a commit of pages that load as what is saved
  pub committed : {E : Type 0} (done : Result Unit E) (result : Result Unit Refusal) (list : List (List ℕ)) (a b : SiteState) → Commits old new done a b → (result ≡ Err Memory → ⊥) → OnOk result (Holds list b) → Saves old values rows batches list result a b
  committed done result list a b commits no_want holds = record {
    safe = weaker a b (λ s c. (s ≡ a.said) × ((opening c ≡ Opens old) ⊎ (opening c ≡ Opens new))) (λ s c. (s ≡ a.said) × ((opening c ≡ Opens old) ⊎ IsStore values rows batches c)) commits.safe (λ s c is. (is.0, either_store c is.1));
    said = commits.said;
    holds = holds;
    unsaved = λ want. absurd (no_want want);
  }

-- where memory was wanting before the first write
pub unsaved_yet : (old : List (List ℕ)) (values : Values) (rows : Rows) (batches : ℕ) (new : List (List ℕ)) (e : Refusal) (a : SiteState) → Holds old a → IsNow a → Saves old values rows batches new (Err e) a a
unsaved_yet old values rows batches new e a holds now =
    let opens : (c : List ℕ) → a.may_leave c → opening c ≡ Opens old = λ c may. ap opening (holds.only c may) ∙ holds.list in
    record {
      safe = start now (λ c may. (refl, inl (opens c may)));
      said = refl;
      holds = tt;
      unsaved = λ want. start now (λ c may. (refl, opens c may));
    }

-- the commit of a plan, over the pages that were there and those that are saved
pub planned : {E : Type 0} (old before new : List (List ℕ)) (ws : List (ℕ × List ℕ)) (done : Result Unit E) (a b : SiteState) → before ≡ old → written old ws ≡ new → Commits before (written before ws) done a b → Commits old new done a b
planned old before new ws done a b same is commits =
    let P : List (List ℕ) → Type 0 = λ l. Commits l (written l ws) done a b in
    let Q : List (List ℕ) → Type 0 = λ l. Commits old l done a b in
    subst Q is (subst P same commits)

-- the parameters of pages that are at a head are those of the head
pub same_kind : (pages : List (List ℕ)) (h : HeadValue) (kind : MetricKind) → head_in_pages pages ≡ Ok h → ((v : Values) → params_in_pages pages ≡ Ok v → v.metric ≡ kind) → h.values.metric ≡ kind
unfolding params_in_pages
same_kind pages h kind head all = all h.values (ap (λ (r : Result HeadValue StoreFault). and_then r values_of_head) head)

-- a fault of the site is no want of memory, and no Ok
pub faulted : (P : Type 0) (r : Result Unit Refusal) (e : Refusal) → r ≡ Err e → e ≡ SiteFault → (r ≡ Err Memory → ⊥) × OnOk r P
faulted P r e is at = (λ want. unlike e at (sym is ∙ want), subst (λ (x : Result Unit Refusal). OnOk x P) (sym is) tt)
  where
    unlike : (e : Refusal) → e ≡ SiteFault → ◌≡◌ {A = Result Unit Refusal} (Err e) (Err Memory) → ⊥
    unlike e at want = cc (at, want)

pub no_want : ◌≡◌ {A = Result Unit Refusal} (Ok tt) (Err Memory) → ⊥
no_want want = cc want
