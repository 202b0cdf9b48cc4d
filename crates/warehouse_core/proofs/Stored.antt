-- What is stored of clusters that stand for their records.
use Rattle.std.proofs.Common.{◌≡◌, ℕ, List, Ok, subst, sym}
use Rattle.vec_record.specs.Distance.{distance_of}
use Rattle.vec_record.specs.Held.{Held}
use Rattle.vec_record.specs.declared.kind.MetricKind.{MetricKind}
use Rattle.page_layout.specs.Heads.{Values}
use Rattle.kept_clusters.specs.Kept.{Kept, Stand}
use Rattle.stored_lines.specs.Laws.{AreHung}
use Rattle.store_image.specs.Images.{Image}
use Rattle.store_image.specs.Loading.{load_of}
use Rattle.store_image.specs.Placing.{image_on}
use Rattle.store_image.specs.Stores.{AreDueIn, DueLinesStand, StandingAreHung}
use Rattle.warehouse_core.specs.States.{StandBy}

-- clusters that stand hang on cores
pub hung_on : StandingAreHung → (dist : List ℕ → List ℕ → ℕ) (v : Values) (records : Held) (k : Kept) → StandBy dist v records k → AreHung k.counts
hung_on law dist v records k by = law dist records k by.stand

-- the pages of a save have the lines that are due, where the clusters stand after it
pub new_due : DueLinesStand → (pages : List (List ℕ)) (was is : Image) (old : List (List ℕ)) → load_of pages ≡ Ok is → is ≡ image_on was.head old was.records was.kept
    → Stand (distance_of was.head.values.metric) was.records is.kept → AreDueIn pages
new_due law pages was is old loads image stand =
    let P : MetricKind → Held → Type 0 = λ m h. Stand (distance_of m) h is.kept in
    let values : is.head.values.metric ≡ was.head.values.metric = λ j. (image j).head.values.metric in
    let records : is.records ≡ was.records = λ j. (image j).records in
    let there : P is.head.values.metric was.records = subst (λ (m : MetricKind). P m was.records) (sym values) stand in
    (law pages is loads).1 (subst (λ (h : Held). P is.head.values.metric h) (sym records) there)
