-- What a save leaves of clusters: the same but for the tags of their tree.
use Rattle.std.proofs.Common.{◌≡◌, ℕ, Bool, false, List, Ok, refl, sym, ap, subst, ◌∙◌}
use Rattle.vec_record.specs.Distance.{distance_of}
use Rattle.vec_record.specs.Held.{Held}
use Rattle.vec_record.specs.Limits.{width_of}
use Rattle.vec_record.specs.declared.kind.MetricKind.{MetricKind}
use Rattle.page_layout.specs.Heads.{Values}
use Rattle.mtree_index.specs.Plain.{PlainTree}
use Rattle.kept_clusters.specs.Kept.{Stand}
use Rattle.stored_lines.specs.Laws.{AreHung}
use Rattle.stored_tree.specs.Shapes.{with_tags}
use Rattle.store_image.specs.Images.{Image}
use Rattle.store_image.specs.Loading.{load_of}
use Rattle.store_image.specs.declared.loaded.Places.{Places}
use Rattle.store_image.specs.Placing.{IsKept, IsPaged, bodies_on, image_on, saved_laid}
use Rattle.store_image.specs.Stores.{AreDueIn, DueLinesStand, StandingAreHung}
use Rattle.warehouse_core.specs.Applying.{IsTagged}
use Rattle.warehouse_core.specs.Inside.{CanHold, Stands, state_of}
use Rattle.warehouse_core.specs.States.{IsClustered, StandBy}
use Rattle.warehouse_core.proofs.Moments.{inside, outside}
use Rattle.warehouse_core.proofs.Opened.{stand_due}
use Rattle.warehouse_core.proofs.Stored.{hung_on}

module _ (old : List (List ℕ)) (was is : Image) (image : is ≡ image_on was.head old was.records was.kept) where
  values_are : is.head.values ≡ was.head.values
  values_are j = (image j).head.values

  records_are : is.records ≡ was.records
  records_are j = (image j).records

  counts_are : is.kept.counts ≡ was.kept.counts
  counts_are j = (image j).kept.counts

  -- the tree has the tags of the places of its nodes
  pub tagged_after : (tree : PlainTree) → was.kept.tree ≡ tree → IsTagged tree is.kept.tree
  tagged_after tree same =
      let tags = (saved_laid was.head.values (bodies_on was.head old) was.records.vectors was.kept).refs in
      (tags, ap (λ (i : Image). i.kept.tree) image ∙ ap (with_tags tags) same)

  module _ (kept : IsKept is.head.values is.records is.kept) where
    pub stands_after : Stand (distance_of was.head.values.metric) was.records is.kept → StandBy (distance_of is.head.values.metric) is.head.values is.records is.kept
    stands_after stand =
        let M : MetricKind → Type 0 = λ m. Stand (distance_of m) was.records is.kept in
        let H : Held → Type 0 = λ h. Stand (distance_of is.head.values.metric) h is.kept in
        record {
          eps = kept.eps;
          minpts = kept.minpts;
          stand = subst H (sym records_are) (subst M (sym (ap (λ (v : Values). v.metric) values_are)) stand);
        }

  module _ (pages : List (List ℕ)) (stored : Bool) (width : is.records.width ≡ width_of is.head.values.metric is.head.values.dim) where
    pub clustered_after : IsKept is.head.values is.records is.kept → Stand (distance_of was.head.values.metric) was.records is.kept → IsClustered (state_of is pages stored false)
    clustered_after kept stand = outside is pages stored false (state_of is pages stored false) refl width (stands_after kept stand)

    by_after : IsClustered (state_of is pages stored false) → StandBy (distance_of is.head.values.metric) is.head.values is.records is.kept
    by_after clustered = inside is pages stored false (state_of is pages stored false) refl width clustered

    -- the pages load as what was saved, and have the lines that are due
    module _ (hung : StandingAreHung) (loads : AreHung was.kept.counts → load_of pages ≡ Ok is) where
      pub loads_after : IsClustered (state_of is pages stored false) → load_of pages ≡ Ok is
      loads_after clustered = loads (subst AreHung counts_are (hung_on hung _ _ _ is.kept (by_after clustered)))

      pub due_after : DueLinesStand → IsClustered (state_of is pages stored false) → AreDueIn pages
      due_after law clustered = stand_due law is pages (loads_after clustered) (by_after clustered)

  -- it stands again
  pub stands_again : (dist : List ℕ → List ℕ → ℕ) (kind : MetricKind) (stored : Bool) (places : Places) (pages : List (List ℕ)) → StandingAreHung → (AreHung was.kept.counts → load_of pages ≡ Ok is) → IsPaged is.head places pages
      → was.head.values.metric ≡ kind → CanHold was.head.values was.records → IsKept is.head.values is.records is.kept → Stands dist kind stored is places pages
  stands_again dist kind stored places pages hung loads paged kind_is holds kept =
      let V : Values → Type 0 = λ v. CanHold v is.records in
      let H : Held → Type 0 = λ h. CanHold was.head.values h in
      record {
        paged = λ _. paged;
        loads = λ _ by. loads (subst AreHung counts_are (hung_on hung _ _ _ is.kept by));
        kind_is = ap (λ (v : Values). v.metric) values_are ∙ kind_is;
        holds = subst V (sym values_are) (subst H (sym records_are) holds);
        kept = kept;
      }
