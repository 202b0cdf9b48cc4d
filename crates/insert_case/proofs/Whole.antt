-- The insertion of one record as a whole: what its steps need, and what they come to.
use Rattle.std.proofs.Common.{◌≡◌, ◌≢◌, ℕ, ◌<◌, ◌≤◌, Bool, true, false, List, [], ◌++◌, length, get_or, IsTrue, IsSome, is_some, None, Some, inl, inr, ◌↔◌, refl, sym, ap, subst, ◌∙◌, if◌then◌else◌, arith}
use Rattle.std.proofs.lemmas.Bool.{cases_Bool}
use Rattle.std.specs.Ordering.{nat_cmp}
use Rattle.std.specs.declared.option.Option.{Option}
use Rattle.std.specs.FinMap as map
use Rattle.std.specs.FinMap.Entries.{find as value_at}
use Rattle.vec_record.specs.Vectors.{IsVector}
use Rattle.vec_record.specs.Held.{Held, Rows, HaveWidth}
use Rattle.vec_record.specs.declared.event.Event.{Event}
use Rattle.plain_dbscan.specs.Index.{near}
use Rattle.plain_dbscan.specs.Marks.{Density, density, Entries, within, is_near, near_of, is_core, cluster_of}
use Rattle.plain_dbscan.specs.Asked.{new_cores}
use Rattle.plain_dbscan.specs.Change.{ChangesByOne}
use Rattle.plain_dbscan.proofs.Chains.{joined_end}
use Rattle.plain_dbscan.proofs.OneMore.{changes_by_one, are_changed}
use Rattle.count_book.specs.Counted.{Counted, IsCore, BecameCore}
use Rattle.label_book.specs.Labels.{Labels, IsMember, EachOnce, HasLeast}
use Rattle.label_book.proofs.Added.{here}
use Rattle.label_book.proofs.Views.{known}
use Rattle.update_seed.specs.declared.groups.InGroup.{InGroup}
use Rattle.update_seed.specs.Books.{IsHeld, Fits, StandsFor, AreLabelsDue, row_due, near_in}
use Rattle.update_seed.specs.Groups.{AreNew, AreGathered, StoodBefore, AreClusters}
use Rattle.update_seed.specs.Offers.{AreOffered}
use Rattle.update_seed.specs.Price.{QueryCost, cost_of_all}
use Rattle.update_seed.proofs.Lists.{here_in, none}
use Rattle.update_seed.proofs.Linked.{offers_none}
use Rattle.update_seed.proofs.Clusters.{near_alike}
use Rattle.insert_case.specs.Inserted.{with_record, IsAddable}
use Rattle.insert_case.specs.Joining.{AreAllJoined, AreLabelled, AreToldNow}
use Rattle.insert_case.specs.Told.{AreNewCores, IsNoiseTold, IsTold, AreEventsTold}
use Rattle.insert_case.specs.inside.Counting.{IsCountedIn}
use Rattle.insert_case.proofs.Raised.{no_core}
use Rattle.insert_case.proofs.Anchors.{not_both}
use Rattle.insert_case.proofs.Standing.{became_is, rows_due}
use Rattle.insert_case.proofs.Fitting.{new_numbers, new_free, core_kept, fits_after}
use Rattle.insert_case.proofs.Paying.{cores_cost}
use Rattle.insert_case.proofs.Labelled.{labels_due}
use Rattle.insert_case.proofs.EventsDue.{told_is}
use Rattle.insert_case.proofs.Noise.{noise_due}
use Rattle.insert_case.proofs.Around.{length_after, around_is, around_once, around_few, around_itself, around_there}

-- a record was added to an index, and a query found what is near it
pub record IsAdded
    (dist : List ℕ → List ℕ → ℕ) (eps : ℕ) (records : Held) (p : ℕ) (v : List ℕ) (width width' : ℕ) (contents contents' : Rows)
    (old : Counted) (labels : Labels) (around : List ℕ) : Type 0 where
  pub fits : Fits width contents records old labels
  pub absent : map.get records.vectors p ≡ None
  pub room : map.len records.vectors < 200000
  pub same_width : width' ≡ width
  pub pairs : contents' ≡ map.insert contents p v
  pub found : around ≡ near dist contents' v eps
  pub wide : HaveWidth width' contents'
  pub zero : dist v v ≡ 0
  pub symmetric : (a b : List ℕ) → IsVector width' a → IsVector width' b → dist a b ≡ dist b a

same_within : (dist : List ℕ → List ℕ → ℕ) (eps m n : ℕ) (o p : Option (List ℕ)) → within (density dist eps m) o p ≡ within (density dist eps n) o p
same_within dist eps m n None p = refl
same_within dist eps m n (Some u) None = refl
same_within dist eps m n (Some u) (Some v) = refl

-- the facts on an index and a metric make this up
pub add_up : {dist : List ℕ → List ℕ → ℕ} {eps : ℕ} {records : Held} {p : ℕ} {v : List ℕ} {width width' : ℕ} {contents contents' : Rows} {old : Counted} {labels : Labels} {around : List ℕ}
    → Fits width contents records old labels → IsAddable records p v → (width' ≡ width) × (contents' ≡ map.insert contents p v) → around ≡ near dist contents' v eps → HaveWidth width' contents'
    → ((a b : List ℕ) → IsVector width' a → IsVector width' b → (dist a b ≡ 0) ↔ (a ≡ b)) → ((a b : List ℕ) → IsVector width' a → IsVector width' b → dist a b ≡ dist b a)
    → IsAdded dist eps records p v width width' contents contents' old labels around
add_up {p = p} {v = v} {contents = contents} fits pair grown found wide identity symmetric =
    let is = wide p v (ap (λ m. map.get m p) grown.1 ∙ here contents p v) in
    record {
      fits = fits;
      absent = pair.absent;
      room = pair.room;
      same_width = grown.0;
      pairs = grown.1;
      found = found;
      wide = wide;
      zero = (identity v v is is).1 refl;
      symmetric = symmetric;
    }

module _ {dist : List ℕ → List ℕ → ℕ} {eps : ℕ} {records : Held} {p : ℕ} {v : List ℕ} {width width' : ℕ} {contents contents' : Rows} {old : Counted} {labels : Labels} {around : List ℕ}
    (added : IsAdded dist eps records p v width width' contents contents' old labels around) where
  abbrev d : Density
  d = density dist eps old.minpts

  abbrev rows' : Rows
  rows' = map.insert records.vectors p v

  abbrev before : Entries
  before = map.entries records.vectors

  abbrev after : Entries
  after = map.entries rows'

  all_pairs : contents' ≡ rows'
  all_pairs = added.pairs ∙ ap (λ m. map.insert m p v) added.fits.held.same_pairs

  pub held : IsHeld width' contents' (with_record records p v)
  held = record { same_width = added.same_width ∙ added.fits.held.same_width; same_pairs = all_pairs }

  found : around ≡ near d.dist rows' v d.eps
  found = added.found ∙ ap (λ m. near dist m v eps) all_pairs

  pub itself : IsMember around p
  itself = around_itself d records.vectors p v around found added.zero

  pub once : EachOnce around
  once = around_once d records.vectors p v around found

  pub few : length around < 4294967296
  few = let f = around_few d records.vectors p v around found added.room in omega (arith, f)

  pub there : (q : ℕ) → IsMember around q → q ≢ p → IsSome (map.get old.rows q)
  there q m ne = added.fits.numbers q ∙ around_there d records.vectors p v around found q m ne

  pub absent : map.get old.rows p ≡ None
  absent = elim (known (map.get old.rows p)) [
    | inl e ↦ e
    | inr r ↦ let bad : false ≡ true = sym (ap is_some added.absent) ∙ (sym (added.fits.numbers p) ∙ ap is_some r.1) in absurd (cc)
  ]

  module _ {new : Counted} {cores : List ℕ} (counted : IsCountedIn labels p around old new) (are : AreNewCores old new cores) where
    core_there : (n : ℕ) → IsCore new n → IsSome (map.get rows' n)
    core_there n h = elim (known (map.get new.rows n)) [
      | inl e ↦ absurd (no_core new n e h)
      | inr r ↦ sym (new_numbers width width' contents contents' records p v old new labels around cores added.fits itself counted are n) ∙ ap is_some r.1
    ]

    pub are_new : AreNew (with_record records p v) new labels cores
    are_new = record {
      once = are.once;
      there = λ n m. core_there n ((are.became n).0 m).1;
      core = λ n m. ((are.became n).0 m).1;
      free = new_free width width' contents contents' records p v old new labels around cores added.fits itself counted are;
    }

    pub fits_all : {near1 : ℕ → ℕ → Bool} {final : Counted} {labels' : Labels} → AreOffered near1 labels cores new final → AreLabelled labels cores labels' → HasLeast labels' → Fits width' contents' (with_record records p v) final labels'
    fits_all {near1 = near1} {final = final} {labels' = labels'} offered labelled least =
        fits_after width width' contents contents' records p v old new labels around cores added.fits itself counted are final labels' near1 offered held labelled least

    module _ {near1 : ℕ → ℕ → Bool} {final : Counted} (offered : AreOffered near1 labels cores new final) where
      alike_core : (q : ℕ) → IsCore final q ↔ IsCore new q
      alike_core = core_kept width width' contents contents' records p v old new labels around cores added.fits itself counted are final labels near1 offered

      pub same_minpts : final.minpts ≡ old.minpts
      same_minpts = offered.minpts_kept ∙ counted.minpts_kept

      pub final_cores : AreNewCores old final cores
      final_cores = record {
        once = are.once;
        became = λ q. (
          (λ m. let h = (are.became q).0 m in (h.0, (alike_core q).1 h.1)),
          (λ h. (are.became q).1 (h.0, (alike_core q).0 h.1)),
        );
      }

      pub told_groups : {out out' : List Event} (groups : List InGroup) → 0 < length cores → AreGathered labels cores groups → AreToldNow groups out out' → IsTold p old final labels out out'
      told_groups groups some gathered told = inr (
        (λ no. no (get_or cores 0 0) ((final_cores.became (get_or cores 0 0)).0 (here_in cores 0 some))),
        record {
          groups = groups;
          new_groups = record { cores = cores; are_new = final_cores; gathered = gathered };
          told = told;
        },
      )

    module _ (stood : StandsFor d width contents records old labels) where
      by : ChangesByOne d p before after
      by = changes_by_one d p v before after ((are_changed records.vectors p v).inserted added.absent)

      alike : (a b : ℕ) → is_near d after a b ≡ is_near d after b a
      alike = near_alike dist eps old.minpts width' rows' (subst (HaveWidth width') all_pairs added.wide) added.symmetric

      small : length after < 4294967295
      small = let l = length_after records.vectors p v in let r = added.room in omega (arith, l, r)

      counted' : IsCountedIn labels p (near_of d after p) old new
      counted' = subst (λ xs. IsCountedIn labels p xs old new) (around_is d records.vectors p v around found) counted

      became : (c : ℕ) → BecameCore old new c ↔ (IsTrue (is_core d after c) × (is_core d before c ≡ false))
      became = became_is dist eps old new labels records.vectors p v added.absent by alike small stood.rows stood.labels_due counted'

      pub stood_before : StoodBefore d records.vectors rows' labels cores
      stood_before = record {
        within = by.within;
        labels_due = stood.labels_due;
        new = λ n. ((λ m. (became n).0 ((are.became n).0 m)), (λ h. (are.became n).1 ((became n).1 h)));
      }

      pub rows_stand : {final : Counted} → AreOffered (near_in dist eps (with_record records p v)) labels cores new final → (a : ℕ) → map.get final.rows a ≡ row_due d after rows' a
      rows_stand {final = final} offered =
          rows_due dist eps old new labels records.vectors p v added.absent by alike small stood.rows stood.labels_due counted' final cores are
          (near_in dist eps (with_record records p v))
          (λ a b. same_within dist eps 1 old.minpts (value_at nat_cmp a after) (value_at nat_cmp b after))
          offered

      pub labels_stand : {groups : List InGroup} {labels' : Labels} → AreGathered labels cores groups → AreClusters d after labels groups → AreAllJoined labels groups labels' → AreLabelsDue d after labels'
      labels_stand {groups = groups} {labels' = labels'} gathered clusters joined =
          labels_due d records.vectors rows' labels labels' cores groups alike stood_before gathered clusters added.fits.least joined

      -- without a new core no record is core that wasn't
      was : cores ≡ [] → (c : ℕ) → IsTrue (is_core d after c) → IsTrue (is_core d before c)
      was empty c k = elim (cases_Bool (is_core d before c)) [
        | inl h ↦ h
        | inr h ↦ absurd (none c (subst (λ xs. IsMember xs c) empty ((are.became c).1 ((became c).1 (k, h)))))
      ]

      -- so all labels stay
      pub labels_stay : cores ≡ [] → AreLabelsDue d after labels
      labels_stay empty a = elim (cases_Bool (is_core d before a)) [
        | inl h ↦
            let now = by.within.cores a h in
            stood.labels_due a ∙ ap (λ b. if b then Some (cluster_of d before a) else None) (h ∙ sym now)
            ∙ ap (λ l. if is_core d after a then Some l else None) (sym (by.kept a h (λ c j. was empty c (joined_end (is_core d after) (is_near d after) a c j))))
        | inr h ↦
            let now : is_core d after a ≡ false = elim (cases_Bool (is_core d after a)) [ inl k ↦ absurd (not_both _ h (was empty a k)) | inr k ↦ k ] in
            stood.labels_due a ∙ ap (λ b. if b then Some (cluster_of d before a) else None) h
            ∙ sym (ap (λ b. if b then Some (cluster_of d after a) else None) now)
      ]

      -- what is told are the events of the change
      pub events_stand : {groups : List InGroup} {labels' : Labels} {out out' : List Event} → 0 < length cores → AreGathered labels cores groups → AreClusters d after labels groups → AreAllJoined labels groups labels' → AreToldNow groups out out'
          → AreEventsTold d records.vectors rows' out out'
      events_stand {groups = groups} {labels' = labels'} {out = out} some gathered clusters joined told =
          told.behind ∙ ap (λ es. out ++ es)
          (told_is d records.vectors rows' labels labels' cores groups alike stood_before gathered clusters added.fits.least joined told.told told.are_told (get_or cores 0 0) (here_in cores 0 some))

      pub noise_stands : (out out' : List Event) → cores ≡ [] → IsNoiseTold p out out' → AreEventsTold d records.vectors rows' out out'
      noise_stands out out' empty told = told ∙ ap (λ es. out ++ es) (noise_due d records.vectors p v added.absent (was empty))

      pub cost_known : (cost : QueryCost) → cost_of_all cost (with_record records p v) eps cores ≤ cost_of_all cost (with_record records p v) eps (new_cores d before after)
      cost_known cost = cores_cost d before after cores are.once (λ q m. (became q).0 ((are.became q).0 m)) cost (with_record records p v) eps

      pub stands_all : {final : Counted} {labels' : Labels} → Fits width' contents' (with_record records p v) final labels' → AreOffered (near_in dist eps (with_record records p v)) labels cores new final → AreLabelsDue d after labels'
          → StandsFor d width' contents' (with_record records p v) final labels'
      stands_all fits offered due = record { fits = fits; rows = rows_stand offered; labels_due = due }

  -- without a new core nothing is offered
  module _ {new : Counted} {cores : List ℕ} (counted : IsCountedIn labels p around old new) (are : AreNewCores old new cores) (empty : cores ≡ []) where
    pub nothing_offered : (near1 : ℕ → ℕ → Bool) → AreOffered near1 labels cores new new
    nothing_offered near1 =
        subst (λ xs. AreOffered near1 labels xs new new) (sym empty) (offers_none near1 labels [] (λ n m. absurd (none n m)) new)

    pub nothing_labelled : AreLabelled labels cores labels
    nothing_labelled a = (
      (λ h. inl h),
      (λ o. elim o [ inl h ↦ h | inr m ↦ absurd (none a (subst (λ xs. IsMember xs a) empty m)) ]),
    )

    pub told_noise : (out out' : List Event) → IsNoiseTold p out out' → IsTold p old new labels out out'
    told_noise out out' told = inl ((λ q b. none q (subst (λ xs. IsMember xs q) empty ((are.became q).1 b))), told)
