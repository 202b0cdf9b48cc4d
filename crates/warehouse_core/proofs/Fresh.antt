-- A warehouse of no records, without a store.
use Rattle.std.proofs.Common.{◌≡◌, ℕ, false, List, refl, sym, ap, subst, ◌∙◌, arith}
use Rattle.std.specs.Ordering.{nat_cmp}
use Rattle.std.specs.FinMap as maps
use Rattle.std.proofs.lemmas.Bool.{false≢true}
use Rattle.vec_record.specs.Held.{Held}
use Rattle.vec_record.specs.Limits.{width_of}
use Rattle.vec_record.specs.declared.kind.MetricKind.{MetricKind}
use Rattle.vec_record.specs.Distance.{distance_of}
use Rattle.vec_record.specs.Spelled.{is_spelled}
use Rattle.tree_objects.specs.Laws.{AllPass, Passes}
use Rattle.tree_objects.proofs.Shapes.{empty_has_all}
use Rattle.page_layout.specs.Heads.{Values}
use Rattle.store_image.specs.declared.loaded.Places.{Places}
use Rattle.store_image.specs.Images.{Image}
use Rattle.store_image.specs.Placing.{CanStand, IsKept}
use Rattle.kept_clusters.specs.Kept.{Kept, nothing_kept, no_records, Fit, Stand}
use Rattle.warehouse_core.specs.States.{StandBy}
use Rattle.warehouse_core.specs.Inside.{CanHold, Stands}
use Rattle.warehouse_core.proofs.Alike.{stand_by}
use Rattle.warehouse_core.proofs.Found.{IsDistance}
use Rattle.warehouse_core.proofs.Applied.{none_held}

holds_none : (v : Values) → CanHold v (no_records (width_of v.metric v.dim))
holds_none v = record {
  held = record { width = refl; each = none_held (CanStand v) };
  few = let none = maps.len-empty nat_cmp (List ℕ) in omega (arith, none);
}

module _ (dist : List ℕ → List ℕ → ℕ) (v : Values) (i : Image) (values : i.head.values ≡ v) (width : i.records.width ≡ width_of v.metric v.dim) (rows : i.records.vectors ≡ maps.empty)
    (nothing : i.kept ≡ nothing_kept (width_of v.metric v.dim) v.eps v.minpts) (stand : Stand dist (no_records (width_of v.metric v.dim)) i.kept) where
  records_are : i.records ≡ no_records (width_of v.metric v.dim)
  records_are j = record { width = width j; vectors = rows j }

  holds : CanHold v i.records
  holds = let Q : Held → Type 0 = λ h. CanHold v h in subst Q (sym records_are) (holds_none v)

  kept : IsKept v i.records i.kept
  kept =
      let F : Held → Type 0 = λ h. Fit h i.kept in
      let A : Kept → Type 0 = λ k. AllPass (is_spelled v.metric v.dim) k.tree in
      record {
        eps = ap (λ (x : Kept). x.eps) nothing;
        minpts = ap (λ (x : Kept). x.counts.minpts) nothing;
        fits = subst F (sym records_are) stand.fits;
        spelled = subst A (sym nothing) (empty_has_all (Passes (is_spelled v.metric v.dim)) (nothing_kept (width_of v.metric v.dim) v.eps v.minpts).tree refl);
      }

  pub fresh_stands : (kind : MetricKind) (places : Places) (pages : List (List ℕ)) → v.metric ≡ kind → Stands dist kind false i places pages
  fresh_stands kind places pages kind_is =
      let P : Values → Type 0 = λ x. CanHold x i.records in
      let R : Values → Type 0 = λ x. IsKept x i.records i.kept in
      record {
        paged = λ has. absurd (false≢true has);
        loads = λ has. absurd (false≢true has);
        kind_is = ap (λ (x : Values). x.metric) values ∙ kind_is;
        holds = subst P (sym values) holds;
        kept = subst R (sym values) kept;
      }

  pub fresh_stand_by : IsDistance dist v → StandBy (distance_of i.head.values.metric) i.head.values i.records i.kept
  fresh_stand_by law =
      let T : Held → Type 0 = λ h. Stand dist h i.kept in
      let R : Values → Type 0 = λ x. StandBy (distance_of x.metric) x i.records i.kept in
      subst R (sym values) (stand_by v i.records i.kept dist holds.held.each law (record { eps = kept.eps; minpts = kept.minpts; stand = subst T (sym records_are) stand }))
