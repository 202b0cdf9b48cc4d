-- The marks of records depend on the distances of their vectors alone.
use Rattle.std.proofs.Common.{◌≡◌, ℕ, ◌≤◌, true, false, cond, not, ◌&&◌, ◌||◌, ◌==◌, nat_le, List, [], ◌∷◌, length, find, filter, map, Option, Some, None, refl, sym, ap, subst, ◌∙◌, arith}
use Rattle.std.specs.List.{AllByRecursion, list_any}
use Rattle.std.specs.Option.{is_some}
use Rattle.std.specs.Ordering.{nat_cmp, eq_by_cmp}
use Rattle.std.specs.FinMap as maps
use Rattle.std.specs.FinMap.Entries.{find as value_at}
use Rattle.std.proofs.lemmas.Bool.{and_parts, leb-true}
use Rattle.std.proofs.lemmas.Bool.Decides.{nat_tests}
use Rattle.std.proofs.lemmas.Option.{none-some, same_Some}
use Rattle.vec_record.specs.Distance.{distance_of}
use Rattle.vec_record.specs.Held.{Held, Rows}
use Rattle.count_book.specs.Counted.{Counted, row_of}
use Rattle.label_book.specs.Labels.{Labels}
use Rattle.update_seed.specs.Books.{StandsFor, row_due, label_due}
use Rattle.mtree_index.specs.Tree.{contents}
use Rattle.kept_clusters.specs.Kept.{Kept, density_in}
use Rattle.warehouse_core.specs.States.{StandBy}
use Rattle.vec_record.specs.Limits.{are_within, greatest_dim, is_between, width_of}
use Rattle.vec_record.specs.Vectors.{IsVector, IsWidth}
use Rattle.vec_record.specs.declared.kind.MetricKind.{MetricKind}
use Rattle.vec_record.specs.declared.kind.MetricKind.TheVariants.{L1, Max, Hamming}
use Rattle.plain_dbscan.specs.declared.marks.Mark.TheVariants.{Core, Border}
use Rattle.plain_dbscan.specs.Chains.{label_of}
use Rattle.plain_dbscan.specs.Marks.{Density, density, Entries, numbers_of, within, is_near, is_core, near_of, cluster_of, anchor_of, outer_mark, mark_of, marks_of}
use Rattle.plain_dbscan.specs.Asked.{asked_of_insertion, asked_of_deletion, is_lost_anchor}
use Rattle.page_layout.specs.Heads.{Values}
use Rattle.store_image.specs.Placing.{CanStand}
use Rattle.warehouse_core.specs.Batches.{density_by}

module _ (d e : Density) (es : Entries) (near : (a b : ℕ) → is_near d es a b ≡ is_near e es a b) (minpts : d.minpts ≡ e.minpts) where
  cores_alike : is_core d es ≡ is_core e es
  cores_alike i a = is_some (value_at nat_cmp a es) && nat_le (minpts i) (length (filter (λ b. near a b i) (numbers_of es)))

  clusters_alike : cluster_of d es ≡ cluster_of e es
  clusters_alike i a = label_of (cores_alike i) (λ x y. near x y i) (filter (cores_alike i) (numbers_of es)) a

  anchors_alike : (a : ℕ) → anchor_of d es a ≡ anchor_of e es a
  anchors_alike a i = cond (cores_alike i a) None (find (λ b. near a b i) (filter (cores_alike i) (numbers_of es)))

  outer_alike : (o : Option ℕ) → outer_mark d es o ≡ outer_mark e es o
  outer_alike None = refl
  outer_alike (Some b) = ap (λ (f : ℕ → ℕ). Border (f b)) clusters_alike

  outers_alike : (a : ℕ) → outer_mark d es (anchor_of d es a) ≡ outer_mark e es (anchor_of e es a)
  outers_alike a = ap (outer_mark d es) (anchors_alike a) ∙ outer_alike (anchor_of e es a)

  mark_alike : (a : ℕ) → mark_of d es a ≡ mark_of e es a
  mark_alike a i = cond (cores_alike i a) (Core (clusters_alike i a)) (outers_alike a i)

  marks_alike : marks_of d es ≡ marks_of e es
  marks_alike i = map (λ (a : ℕ). (a, mark_alike a i)) (numbers_of es)

  row_alike : (rows : Rows) (a : ℕ) → row_due d es rows a ≡ row_due e es rows a
  row_alike rows a i = cond (is_some (maps.get rows a)) (Some (row_of (length (filter (λ b. near a b i) (numbers_of es))) (anchors_alike a i))) None

  label_alike : (a : ℕ) → label_due d es a ≡ label_due e es a
  label_alike a i = cond (cores_alike i a) (Some (clusters_alike i a)) None

-- what stands by a density stands by one that has the same near
module _ (d e : Density) (records : Held) (near : (a b : ℕ) → is_near d (maps.entries records.vectors) a b ≡ is_near e (maps.entries records.vectors) a b) (minpts : d.minpts ≡ e.minpts) where
  stands_alike : (width : ℕ) (contents : Rows) (counts : Counted) (labels : Labels) → StandsFor d width contents records counts labels → StandsFor e width contents records counts labels
  stands_alike width contents counts labels stands = record {
    fits = stands.fits;
    rows = λ a. stands.rows a ∙ row_alike d e (maps.entries records.vectors) near minpts records.vectors a;
    labels_due = λ a. stands.labels_due a ∙ label_alike d e (maps.entries records.vectors) near minpts a;
  }

pub same_key : (q k : ℕ) → eq_by_cmp nat_cmp q k ≡ true → k ≡ q
same_key q k e = grind (arith, nat_tests)

-- what is found among entries has what each of them has
pub found_so : (P : ℕ × List ℕ → Type 0) (es : Entries) (q : ℕ) (v : List ℕ) → AllByRecursion P es → value_at nat_cmp q es ≡ Some v → P (q, v)
found_so P [] q v all is = absurd (none-some _ is)
found_so P (e ∷ es) q v all is =
    elim (eq_by_cmp nat_cmp q e.0) as (λ b. eq_by_cmp nat_cmp q e.0 ≡ b → cond b (Some e.1) (value_at nat_cmp q es) ≡ Some v → P (q, v)) [
      | true ↦ λ tied here. let Q : ℕ → Type 0 = λ n. P (n, v) in subst Q (same_key q e.0 tied) (let R : List ℕ → Type 0 = λ u. P (e.0, u) in subst R (same_Some _ _ here) all.0)
      | false ↦ λ apart later. found_so P es q v all.1 later
    ] refl is

within_alike : (d e : Density) (o p : Option (List ℕ)) → d.eps ≡ e.eps → ((u v : List ℕ) → o ≡ Some u → p ≡ Some v → d.dist u v ≡ e.dist u v) → within d o p ≡ within e o p
within_alike d e None p eps dist = refl
within_alike d e (Some u) None eps dist = refl
within_alike d e (Some u) (Some v) eps dist = λ i. nat_le (dist u v refl refl i) (eps i)

-- so a distance that is that of the metric, over vectors of the width, gives what is near, and the marks, by the metric
module _ (v : Values) (es : Entries) (dist : List ℕ → List ℕ → ℕ) (all : AllByRecursion (CanStand v) es)
    (law : (a b : List ℕ) → IsVector (width_of v.metric v.dim) a → IsVector (width_of v.metric v.dim) b → dist a b ≡ distance_of v.metric a b) where
  is_near_by : (a b : ℕ) → is_near (density dist v.eps v.minpts) es a b ≡ is_near (density_by v) es a b
  is_near_by a b =
      within_alike (density dist v.eps v.minpts) (density_by v) (value_at nat_cmp a es) (value_at nat_cmp b es) refl (λ x y is_x is_y.
      law x y (found_so (CanStand v) es a x all is_x).vector (found_so (CanStand v) es b y all is_y).vector)

  pub near_by : (a : ℕ) → near_of (density dist v.eps v.minpts) es a ≡ near_of (density_by v) es a
  near_by a i = filter (λ b. is_near_by a b i) (numbers_of es)

  pub marks_by : marks_of (density dist v.eps v.minpts) es ≡ marks_of (density_by v) es
  marks_by = marks_alike (density dist v.eps v.minpts) (density_by v) es is_near_by refl

  pub mark_by : (a : ℕ) → mark_of (density dist v.eps v.minpts) es a ≡ mark_of (density_by v) es a
  mark_by = mark_alike (density dist v.eps v.minpts) (density_by v) es is_near_by refl

-- the density of clusters by parameters is that of the parameters
density_in_is : (dist : List ℕ → List ℕ → ℕ) (v : Values) (k : Kept) → k.eps ≡ v.eps → k.counts.minpts ≡ v.minpts → density_in dist k ≡ density dist v.eps v.minpts
density_in_is dist v k eps minpts i = density dist (eps i) (minpts i)

-- clusters that stand for records by a distance that is that of the metric stand by the metric, and the other way round
module _ (v : Values) (records : Held) (k : Kept) (dist : List ℕ → List ℕ → ℕ) (all : AllByRecursion (CanStand v) (maps.entries records.vectors))
    (law : (a b : List ℕ) → IsVector (width_of v.metric v.dim) a → IsVector (width_of v.metric v.dim) b → dist a b ≡ distance_of v.metric a b) where
  abbrev For : Density → Type 0
  For d = StandsFor d k.tree.width (contents k.tree) records k.counts k.labels

  pub stand_by : StandBy dist v records k → StandBy (distance_of v.metric) v records k
  stand_by by =
      let here : For (density dist v.eps v.minpts) = subst For (density_in_is dist v k by.eps by.minpts) by.stand in
      let there : For (density_by v) = stands_alike (density dist v.eps v.minpts) (density_by v) records (is_near_by v (maps.entries records.vectors) dist all law) refl _ _ _ _ here in
      record { eps = by.eps; minpts = by.minpts; stand = subst For (sym (density_in_is (distance_of v.metric) v k by.eps by.minpts)) there }

  pub stand_under : StandBy (distance_of v.metric) v records k → StandBy dist v records k
  stand_under by =
      let here : For (density_by v) = subst For (density_in_is (distance_of v.metric) v k by.eps by.minpts) by.stand in
      let there : For (density dist v.eps v.minpts) =
      stands_alike (density_by v) (density dist v.eps v.minpts) records (λ a b. sym (is_near_by v (maps.entries records.vectors) dist all law a b)) refl _ _ _ _ here in
      record { eps = by.eps; minpts = by.minpts; stand = subst For (sym (density_in_is dist v k by.eps by.minpts)) there }

-- what changes ask about, by two distances that agree on the vectors before and after
lost_alike : (d e : Density) (after : Entries) → is_core d after ≡ is_core e after → (o : Option ℕ) → is_lost_anchor d after o ≡ is_lost_anchor e after o
lost_alike d e after cores None = refl
lost_alike d e after cores (Some b) = λ i. not (cores i b)

module _ (v : Values) (dist : List ℕ → List ℕ → ℕ) (before after : Entries) (all : AllByRecursion (CanStand v) before) (all' : AllByRecursion (CanStand v) after)
    (law : (a b : List ℕ) → IsVector (width_of v.metric v.dim) a → IsVector (width_of v.metric v.dim) b → dist a b ≡ distance_of v.metric a b) where
  abbrev d : Density
  d = density dist v.eps v.minpts

  cores_before : is_core d before ≡ is_core (density_by v) before
  cores_before = cores_alike d (density_by v) before (is_near_by v before dist all law) refl

  cores_after : is_core d after ≡ is_core (density_by v) after
  cores_after = cores_alike d (density_by v) after (is_near_by v after dist all' law) refl

  clusters_before : cluster_of d before ≡ cluster_of (density_by v) before
  clusters_before = clusters_alike d (density_by v) before (is_near_by v before dist all law) refl

  lost_before : (a : ℕ) → is_lost_anchor d after (anchor_of d before a) ≡ is_lost_anchor (density_by v) after (anchor_of (density_by v) before a)
  lost_before a =
      ap (is_lost_anchor d after) (anchors_alike d (density_by v) before (is_near_by v before dist all law) refl a)
      ∙ lost_alike d (density_by v) after cores_after (anchor_of (density_by v) before a)

  pub insertion_asked : (p : ℕ) → asked_of_insertion d before after p ≡ asked_of_insertion (density_by v) before after p
  insertion_asked p i = filter (λ a. (a == p) || (cores_after i a && not (cores_before i a))) (numbers_of after)

  pub deletion_asked : (p : ℕ) → asked_of_deletion d before after p ≡ asked_of_deletion (density_by v) before after p
  deletion_asked p i =
      filter (λ a. (a == p) || ((cores_before i a && not (cores_after i a)) || (lost_before a i || (cores_after i a
      && list_any (λ b. clusters_before i a == clusters_before i b) (filter (λ x. cores_before i x && not (cores_after i x)) (numbers_of before)))))) (numbers_of before)

-- the width of lawful parameters
dim_within : (m : MetricKind) (dim eps minpts cap : ℕ) → are_within m dim eps minpts cap ≡ true → (1 ≤ dim) × (dim ≤ greatest_dim m)
dim_within m dim eps minpts cap e =
    let parts = and_parts (is_between 1 (greatest_dim m) dim) _ e in
    let both = and_parts (nat_le 1 dim) (nat_le dim (greatest_dim m)) parts.0 in
    (leb-true _ _ both.0, leb-true _ _ both.1)

pub lawful_width : (m : MetricKind) (dim eps minpts cap : ℕ) → are_within m dim eps minpts cap ≡ true → IsWidth (width_of m dim)
lawful_width L1 dim eps minpts cap e = let b = dim_within L1 dim eps minpts cap e in record { some = omega (arith, b.0); small = omega (arith, b.1) }
lawful_width Max dim eps minpts cap e = let b = dim_within Max dim eps minpts cap e in record { some = omega (arith, b.0); small = omega (arith, b.1) }
lawful_width Hamming dim eps minpts cap e = let b = dim_within Hamming dim eps minpts cap e in record { some = omega (arith, b.0); small = omega (arith, b.1) }

-- the most records that lawful parameters allow
pub cap_within : (m : MetricKind) (dim eps minpts cap : ℕ) → are_within m dim eps minpts cap ≡ true → cap ≤ 200000
cap_within m dim eps minpts cap e =
    let parts = and_parts (is_between 1 (greatest_dim m) dim) _ e in
    let more = and_parts (is_between 0 65535 eps) _ parts.1 in
    let last = and_parts (is_between 1 65535 minpts) (is_between 1 200000 cap) more.1 in
    leb-true _ _ (and_parts (nat_le 1 cap) (nat_le cap 200000) last.1).1
