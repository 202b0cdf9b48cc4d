-- What clusters say of the records of a store, by the metric of its parameters.
use Rattle.std.proofs.Common.{◌≡◌, ℕ, ◌≤◌, cond, List, ◌++◌, Some, None, sym, ap, ◌∙◌, arith}
use Rattle.std.specs.FinMap as maps
use Rattle.vec_record.specs.Distance.{distance_of}
use Rattle.vec_record.specs.Held.{Held}
use Rattle.vec_record.specs.Limits.{width_of}
use Rattle.vec_record.specs.Vectors.{IsVector}
use Rattle.vec_record.specs.declared.change.Change.{Change}
use Rattle.vec_record.specs.declared.change.Change.TheVariants.{Insert, Delete}
use Rattle.vec_record.specs.declared.event.Event.{Event}
use Rattle.plain_dbscan.specs.declared.marks.Mark.{Mark}
use Rattle.plain_dbscan.specs.Asked.{work}
use Rattle.plain_dbscan.specs.Cases.{cases_of}
use Rattle.plain_dbscan.specs.Marks.{Density, density, mark_of, marks_of, near_of}
use Rattle.page_layout.specs.Heads.{Values}
use Rattle.delete_case.specs.Told.{AreCasesTold}
use Rattle.kept_clusters.specs.Kept.{Kept, density_in, marks_in}
use Rattle.kept_clusters.specs.Asked.{mark_due}
use Rattle.warehouse_core.specs.Batches.{density_by, marks_on}
use Rattle.warehouse_core.specs.Work.{work_of, held_after}
use Rattle.warehouse_core.specs.Queries.{mark_on, near_on}
use Rattle.batch_text.specs.Batch.{IsChangeOf}
use Rattle.insert_case.specs.Inserted.{IsAddable}
use Rattle.store_image.specs.Placing.{IsKept}
use Rattle.warehouse_core.specs.States.{StandBy}
use Rattle.warehouse_core.specs.Inside.{AreHeld, CanFollow}
use Rattle.warehouse_core.proofs.Alike.{mark_by, marks_by, near_by, insertion_asked, deletion_asked}

-- the density of the clusters is that of the parameters
pub density_is : {dist : List ℕ → List ℕ → ℕ} {v : Values} {records : Held} {k : Kept} → StandBy dist v records k → density_in dist k ≡ density dist v.eps v.minpts
density_is {dist = dist} by = λ i. density dist (by.eps i) (by.minpts i)

-- a distance that is that of a metric, over vectors of the width
abbrev pub IsDistance : (List ℕ → List ℕ → ℕ) → Values → Type 0
IsDistance dist v = (a b : List ℕ) → IsVector (width_of v.metric v.dim) a → IsVector (width_of v.metric v.dim) b → dist a b ≡ distance_of v.metric a b

-- what is near is found by the parameters, whatever the counts and labels are
pub near_found : {dist : List ℕ → List ℕ → ℕ} {v : Values} {records : Held} {k : Kept} → IsKept v records k → AreHeld v records → IsDistance dist v → (n : ℕ)
    → near_of (density_in dist k) (maps.entries records.vectors) n ≡ near_on v records.vectors n
near_found {dist = dist} {v = v} {records = records} {k = k} kept held law n =
    let density_is : density_in dist k ≡ density dist v.eps v.minpts = λ i. density dist (kept.eps i) (kept.minpts i) in
    ap (λ (d : Density). near_of d (maps.entries records.vectors) n) density_is ∙ near_by v (maps.entries records.vectors) dist held.each law n

module _ {dist : List ℕ → List ℕ → ℕ} {v : Values} {records : Held} {k : Kept} (by : StandBy dist v records k) (held : AreHeld v records) (law : IsDistance dist v) where
  pub marks_found : marks_in dist k records.vectors ≡ marks_on v records.vectors
  marks_found = ap (λ (d : Density). marks_of d (maps.entries records.vectors)) (density_is by) ∙ marks_by v (maps.entries records.vectors) dist held.each law

  pub mark_found : (n : ℕ) → mark_due (density_in dist k) records.vectors n ≡ mark_on v records.vectors n
  mark_found n =
      ap (λ (m : Mark). cond (maps.contains_key records.vectors n) (Some m) None)
      (ap (λ (d : Density). mark_of d (maps.entries records.vectors) n) (density_is by) ∙ mark_by v (maps.entries records.vectors) dist held.each law n)

  module _ (next : Held) (held' : AreHeld v next) where
    -- what is told is the events of the change, by the metric
    pub told_found : (out out' : List Event) → AreCasesTold (density_in dist k) records.vectors next.vectors out out' → out' ≡ out ++ cases_of (marks_on v records.vectors) (marks_on v next.vectors)
    told_found out out' told =
        told ∙ ap (λ (es : List Event). out ++ es)
        (ap (λ (d : Density). cases_of (marks_of d (maps.entries records.vectors)) (marks_of d (maps.entries next.vectors))) (density_is by)
        ∙ ap (λ (m : List (ℕ × Mark)). cases_of m (marks_of (density dist v.eps v.minpts) (maps.entries next.vectors))) (marks_by v (maps.entries records.vectors) dist held.each law)
        ∙ ap (cases_of (marks_on v records.vectors)) (marks_by v (maps.entries next.vectors) dist held'.each law))

work_same : (v : Values) (dist : List ℕ → List ℕ → ℕ) (records : Held) (c : Change) → AreHeld v records → AreHeld v (held_after records c) → IsDistance dist v → work_of (density dist v.eps v.minpts) records c ≡ work_of (density_by v) records c
work_same v dist records (Insert n w) held held' law =
    ap (λ (asked : List ℕ). work asked (maps.entries records.vectors) (maps.entries (maps.insert records.vectors n w)))
    (insertion_asked v dist (maps.entries records.vectors) (maps.entries (maps.insert records.vectors n w)) held.each held'.each law n)
work_same v dist records (Delete n) held held' law =
    ap (λ (asked : List ℕ). work asked (maps.entries records.vectors) (maps.entries (maps.remove records.vectors n)))
    (deletion_asked v dist (maps.entries records.vectors) (maps.entries (maps.remove records.vectors n)) held.each held'.each law n)

-- the work of a change is that by the metric
pub work_found : {dist : List ℕ → List ℕ → ℕ} {v : Values} {records : Held} {k : Kept} → StandBy dist v records k → (c : Change) → AreHeld v records → AreHeld v (held_after records c) → IsDistance dist v
    → work_of (density_in dist k) records c ≡ work_of (density_by v) records c
work_found {dist = dist} {v = v} {records = records} by c held held' law = ap (λ (d : Density). work_of d records c) (density_is by) ∙ work_same v dist records c held held' law

-- a record that can follow may be added
pub addable : (v : Values) (records : Held) (n : ℕ) (w : List ℕ) → v.cap ≤ 200000 → AreHeld v records → IsChangeOf (width_of v.metric v.dim) (Insert n w) → CanFollow v.cap records.vectors (Insert n w) → IsAddable records n w
addable v records n w small held fits can = record {
  some = fits.0;
  absent = can.0;
  width = fits.1.len ∙ sym held.width;
  room = omega (arith, can.1, small);
}
