-- What a warehouse is.
use Rattle.std.specs.Prelude.{◌≡◌, ℕ, Bool, List, Ok, refl}
use Rattle.std.specs.Coded.{Coded, code_by, coded×, coded_ℕ, coded_bool, coded_list}
use Rattle.std.specs.FinMap as map
use Rattle.vec_record.specs.Held.{Held, Rows}
use Rattle.vec_record.specs.Limits.{width_of}
use Rattle.vec_record.specs.Distance.{distance_of}
use Rattle.kept_clusters.specs.Kept.{Kept, kept_code, Stand}
use Rattle.vec_record.specs.declared.kind.MetricKind.{MetricKind}
use Rattle.vec_record.specs.declared.kind.MetricKind.TheVariants.{L1, Max, Hamming}
use Rattle.page_layout.specs.Heads.{Values, metric_number, metric_of}
use Rattle.store_image.specs.Images.{Image}
use Rattle.store_image.specs.Loading.{load_of}

-- its parameters, the pages of its store, its records, how many batches it accepted, whether it has a store, whether it
-- has failed, and what is kept of the clusters of its records
pub record State : Type 0 where
  pub values : Values
  pub pages : List (List ℕ)
  pub rows : Rows
  pub batches : ℕ
  pub stored : Bool
  pub failed : Bool
  pub kept : Kept

-- stored as tuples of these
abbrev pub metric_code : Coded MetricKind
metric_code = code_by ℕ coded_ℕ metric_number metric_of metric_kept
  where
    metric_kept : (m : MetricKind) → metric_of (metric_number m) ≡ m
    metric_kept L1 = refl
    metric_kept Max = refl
    metric_kept Hamming = refl

abbrev pub values_code : Coded Values
values_code =
    code_by (MetricKind × (ℕ × (ℕ × (ℕ × ℕ)))) (coded× metric_code (coded× coded_ℕ (coded× coded_ℕ (coded× coded_ℕ coded_ℕ))))
    (λ v. (v.metric, (v.dim, (v.eps, (v.minpts, v.cap))))) (λ p. record { metric = p.0; dim = p.1.0; eps = p.1.1.0; minpts = p.1.1.1.0; cap = p.1.1.1.1 }) (λ _. refl)

abbrev pub state_code : Coded State
state_code =
    code_by (Values × (List (List ℕ) × (Rows × (ℕ × (Bool × (Bool × Kept))))))
    (coded× values_code (coded× (coded_list (coded_list coded_ℕ)) (coded× (map.code coded_ℕ (coded_list coded_ℕ)) (coded× coded_ℕ (coded× coded_bool (coded× coded_bool kept_code))))))
    (λ s. (s.values, (s.pages, (s.rows, (s.batches, (s.stored, (s.failed, s.kept)))))))
    (λ p. record { values = p.0; pages = p.1.0; rows = p.1.1.0; batches = p.1.1.1.0; stored = p.1.1.1.1.0; failed = p.1.1.1.1.1.0; kept = p.1.1.1.1.1.1 }) (λ _. refl)

-- its records, with the width of its vectors
abbrev pub held_in : State → Held
held_in w = record { width = width_of w.values.metric w.values.dim; vectors = w.rows }

-- clusters by these parameters, under a distance, that stand for the records
pub record StandBy (dist : List ℕ → List ℕ → ℕ) (v : Values) (records : Held) (k : Kept) : Type 0 where
  pub eps : k.eps ≡ v.eps
  pub minpts : k.counts.minpts ≡ v.minpts
  pub stand : Stand dist records k

-- what is kept of its clusters stands for its records: each count, anchor and label is the one that is due
abbrev pub IsClustered : State → Type 0
IsClustered w = StandBy (distance_of w.values.metric) w.values (held_in w) w.kept

-- the pages load as these parameters, records and batches
pub record LoadsAs (pages : List (List ℕ)) (values : Values) (rows : Rows) (batches : ℕ) : Type 0 where
  pub image : Image
  pub loads : load_of pages ≡ Ok image
  pub values_are : image.head.values ≡ values
  pub rows_are : image.records.vectors ≡ rows
  pub batches_are : image.head.batches ≡ batches
