use Rattle.std.proofs.Common.{◌≡◌, ◌+◌, ◌≤◌, OnOk, sym, ap, subst, ◌∙◌}
use Rattle.vec_record.specs.Distance.{distance_of}
use Rattle.vec_record.specs.Limits.{width_of}
use Rattle.vec_record.specs.declared.change.Change.{Change}
use Rattle.vec_record.specs.declared.change.Change.TheVariants.{Insert, Delete}
use Rattle.plain_dbscan.specs.Marks.{density}
use Rattle.page_layout.specs.Heads.{values_of}
use Rattle.batch_text.specs.Batch.{IsChangeOf, IsSpelledChange}
use Rattle.delete_case.specs.Deleted.{vector_at}
use Rattle.warehouse_core.specs.Batches.{density_by}
use Rattle.warehouse_core.specs.Costs.{tree_after, IsPaid}
use Rattle.warehouse_core.specs.Work.{held_after, work_of}
use Rattle.warehouse_core.specs.Inside.{CanFollow}
use Rattle.warehouse_core.proofs.Alike.{lawful_width, cap_within}
use Rattle.warehouse_core.proofs.Found.{IsDistance, addable}
use Rattle.warehouse_core.proofs.Changed.{inserted_tree, removed_tree, priced, worked, held_still, stand_still, told_so, kept_still, inserted_spelled, removed_spelled}
use Rattle.warehouse_core.proofs.changing.apply_one.Goals as goal

pub insert-requires-clause-pair : goal.insert-requires-clause-pair
insert-requires-clause-pair g c =
    let p = c.args.params.now in
    let v = values_of p in
    addable v c.args.records.now c.in-Insert.number c.in-Insert.vector (cap_within p.metric p.dim p.eps p.minpts p.cap p.limits) c.requires.held
    (subst (λ (ch : Change). IsChangeOf (width_of p.metric p.dim) ch) c.in-Insert.is c.requires.fits)
    (subst (λ (ch : Change). CanFollow p.cap c.args.records.now.vectors ch) c.in-Insert.is c.requires.can)

pub delete-requires-clause-there : goal.delete-requires-clause-there
delete-requires-clause-there g c =
    subst (λ (ch : Change). CanFollow c.args.params.now.cap c.args.records.now.vectors ch) c.in-Delete.is c.requires.can

pub returns-in-Insert-clause-records : goal.returns-in-Insert-clause-records
returns-in-Insert-clause-records g c =
    let records = c.args.records.now in
    subst (λ (ch : Change). OnOk c.insert.result (c.insert.new.records ≡ held_after records ch)) (sym c.in-Insert.is) c.insert.ensures.records

pub returns-in-Insert-clause-held : goal.returns-in-Insert-clause-held
returns-in-Insert-clause-held g c =
    let p = c.args.params.now in
    let v = values_of p in
    let records = c.args.records.now in
    let dist = g.M.Metric.dist in
    let law : IsDistance dist v = λ a b is_a is_b.
    (g.met.M.Metric.defined _ a b (lawful_width p.metric p.dim p.eps p.minpts p.cap p.limits) is_a is_b).0 ∙ ap (λ k. distance_of k a b) (sym c.requires.kind) in
    held_still c.requires.held c.args.change c.requires.fits c.requires.spelled c.insert.result c.insert.new.records (subst (λ (ch : Change). OnOk c.insert.result (c.insert.new.records ≡ held_after records ch)) (sym c.in-Insert.is) c.insert.ensures.records)

pub returns-in-Insert-clause-clusters : goal.returns-in-Insert-clause-clusters
returns-in-Insert-clause-clusters g c =
    let p = c.args.params.now in
    let v = values_of p in
    let records = c.args.records.now in
    let dist = g.M.Metric.dist in
    let law : IsDistance dist v = λ a b is_a is_b.
    (g.met.M.Metric.defined _ a b (lawful_width p.metric p.dim p.eps p.minpts p.cap p.limits) is_a is_b).0 ∙ ap (λ k. distance_of k a b) (sym c.requires.kind) in
    λ by. stand_still by c.requires.held law c.args.change c.requires.fits c.requires.spelled c.insert.result c.insert.new.records c.insert.new.self (subst (λ (ch : Change). OnOk c.insert.result (c.insert.new.records ≡ held_after records ch)) (sym c.in-Insert.is) c.insert.ensures.records)
    c.insert.ensures.setting (c.insert.ensures.stands by.stand)

pub returns-in-Insert-clause-events : goal.returns-in-Insert-clause-events
returns-in-Insert-clause-events g c =
    let p = c.args.params.now in
    let v = values_of p in
    let records = c.args.records.now in
    let dist = g.M.Metric.dist in
    let law : IsDistance dist v = λ a b is_a is_b.
    (g.met.M.Metric.defined _ a b (lawful_width p.metric p.dim p.eps p.minpts p.cap p.limits) is_a is_b).0 ∙ ap (λ k. distance_of k a b) (sym c.requires.kind) in
    λ by. told_so by c.requires.held law c.args.change c.requires.fits c.requires.spelled c.insert.result c.insert.new.records c.insert.new.self (subst (λ (ch : Change). OnOk c.insert.result (c.insert.new.records ≡ held_after records ch)) (sym c.in-Insert.is) c.insert.ensures.records)
    c.args.events.now c.insert.new.out (c.insert.ensures.events by.stand)

pub returns-in-Insert-clause-price : goal.returns-in-Insert-clause-price
returns-in-Insert-clause-price g c =
    let p = c.args.params.now in
    let v = values_of p in
    let records = c.args.records.now in
    let dist = g.M.Metric.dist in
    let law : IsDistance dist v = λ a b is_a is_b.
    (g.met.M.Metric.defined _ a b (lawful_width p.metric p.dim p.eps p.minpts p.cap p.limits) is_a is_b).0 ∙ ap (λ k. distance_of k a b) (sym c.requires.kind) in
    λ by.
    let P : Change → Type 0 = λ ch. IsPaid g.M.Metric.most (density dist p.eps p.minpts) c.args.clusters.now.tree records ch c.args.steps.now c.insert.new.steps in
    let Q : Change → Type 0 = λ ch. IsChangeOf (width_of p.metric p.dim) ch in
    let R : Change → Type 0 = λ ch. IsSpelledChange p.metric p.dim ch in
    subst P (sym c.in-Insert.is) (priced by c.requires.held law (Insert c.in-Insert.number c.in-Insert.vector) (subst Q c.in-Insert.is c.requires.fits) (subst R c.in-Insert.is c.requires.spelled) g.M.Metric.most c.args.steps.now c.insert.new.steps (c.insert.ensures.price by.stand))

pub returns-in-Insert-clause-work : goal.returns-in-Insert-clause-work
returns-in-Insert-clause-work g c =
    let p = c.args.params.now in
    let v = values_of p in
    let records = c.args.records.now in
    let dist = g.M.Metric.dist in
    let law : IsDistance dist v = λ a b is_a is_b.
    (g.met.M.Metric.defined _ a b (lawful_width p.metric p.dim p.eps p.minpts p.cap p.limits) is_a is_b).0 ∙ ap (λ k. distance_of k a b) (sym c.requires.kind) in
    λ by.
    let P : Change → Type 0 = λ ch. c.insert.new.steps ≤ c.args.steps.now + work_of (density_by v) records ch in
    let Q : Change → Type 0 = λ ch. IsChangeOf (width_of p.metric p.dim) ch in
    let R : Change → Type 0 = λ ch. IsSpelledChange p.metric p.dim ch in
    subst P (sym c.in-Insert.is) (worked by c.requires.held law (Insert c.in-Insert.number c.in-Insert.vector) (subst Q c.in-Insert.is c.requires.fits) (subst R c.in-Insert.is c.requires.spelled) c.args.steps.now c.insert.new.steps (c.insert.ensures.work by.stand))

pub returns-in-Insert-clause-tree : goal.returns-in-Insert-clause-tree
returns-in-Insert-clause-tree g c =
    let records = c.args.records.now in
    let dist = g.M.Metric.dist in
    let P : Change → Type 0 = λ ch. OnOk c.insert.result (c.insert.new.self.tree ≡ tree_after dist g.M.Metric.most records ch c.args.clusters.now.tree) in
    subst P (sym c.in-Insert.is) (inserted_tree c.insert.result dist g.M.Metric.most c.args.clusters.now.tree c.insert.new.self.tree c.in-Insert.number c.in-Insert.vector c.insert.ensures.tree)

pub returns-in-Delete-clause-records : goal.returns-in-Delete-clause-records
returns-in-Delete-clause-records g c =
    let records = c.args.records.now in
    subst (λ (ch : Change). OnOk c.delete.result (c.delete.new.records ≡ held_after records ch)) (sym c.in-Delete.is) c.delete.ensures.records

pub returns-in-Delete-clause-held : goal.returns-in-Delete-clause-held
returns-in-Delete-clause-held g c =
    let p = c.args.params.now in
    let v = values_of p in
    let records = c.args.records.now in
    let dist = g.M.Metric.dist in
    let law : IsDistance dist v = λ a b is_a is_b.
    (g.met.M.Metric.defined _ a b (lawful_width p.metric p.dim p.eps p.minpts p.cap p.limits) is_a is_b).0 ∙ ap (λ k. distance_of k a b) (sym c.requires.kind) in
    held_still c.requires.held c.args.change c.requires.fits c.requires.spelled c.delete.result c.delete.new.records (subst (λ (ch : Change). OnOk c.delete.result (c.delete.new.records ≡ held_after records ch)) (sym c.in-Delete.is) c.delete.ensures.records)

pub returns-in-Delete-clause-clusters : goal.returns-in-Delete-clause-clusters
returns-in-Delete-clause-clusters g c =
    let p = c.args.params.now in
    let v = values_of p in
    let records = c.args.records.now in
    let dist = g.M.Metric.dist in
    let law : IsDistance dist v = λ a b is_a is_b.
    (g.met.M.Metric.defined _ a b (lawful_width p.metric p.dim p.eps p.minpts p.cap p.limits) is_a is_b).0 ∙ ap (λ k. distance_of k a b) (sym c.requires.kind) in
    λ by. stand_still by c.requires.held law c.args.change c.requires.fits c.requires.spelled c.delete.result c.delete.new.records c.delete.new.self (subst (λ (ch : Change). OnOk c.delete.result (c.delete.new.records ≡ held_after records ch)) (sym c.in-Delete.is) c.delete.ensures.records)
    c.delete.ensures.setting (c.delete.ensures.stands by.stand)

pub returns-in-Delete-clause-events : goal.returns-in-Delete-clause-events
returns-in-Delete-clause-events g c =
    let p = c.args.params.now in
    let v = values_of p in
    let records = c.args.records.now in
    let dist = g.M.Metric.dist in
    let law : IsDistance dist v = λ a b is_a is_b.
    (g.met.M.Metric.defined _ a b (lawful_width p.metric p.dim p.eps p.minpts p.cap p.limits) is_a is_b).0 ∙ ap (λ k. distance_of k a b) (sym c.requires.kind) in
    λ by. told_so by c.requires.held law c.args.change c.requires.fits c.requires.spelled c.delete.result c.delete.new.records c.delete.new.self (subst (λ (ch : Change). OnOk c.delete.result (c.delete.new.records ≡ held_after records ch)) (sym c.in-Delete.is) c.delete.ensures.records)
    c.args.events.now c.delete.new.out (c.delete.ensures.events by.stand)

pub returns-in-Delete-clause-price : goal.returns-in-Delete-clause-price
returns-in-Delete-clause-price g c =
    let p = c.args.params.now in
    let v = values_of p in
    let records = c.args.records.now in
    let dist = g.M.Metric.dist in
    let law : IsDistance dist v = λ a b is_a is_b.
    (g.met.M.Metric.defined _ a b (lawful_width p.metric p.dim p.eps p.minpts p.cap p.limits) is_a is_b).0 ∙ ap (λ k. distance_of k a b) (sym c.requires.kind) in
    λ by.
    let P : Change → Type 0 = λ ch. IsPaid g.M.Metric.most (density dist p.eps p.minpts) c.args.clusters.now.tree records ch c.args.steps.now c.delete.new.steps in
    let Q : Change → Type 0 = λ ch. IsChangeOf (width_of p.metric p.dim) ch in
    let R : Change → Type 0 = λ ch. IsSpelledChange p.metric p.dim ch in
    subst P (sym c.in-Delete.is) (priced by c.requires.held law (Delete c.in-Delete.number) (subst Q c.in-Delete.is c.requires.fits) (subst R c.in-Delete.is c.requires.spelled) g.M.Metric.most c.args.steps.now c.delete.new.steps (c.delete.ensures.price by.stand))

pub returns-in-Delete-clause-work : goal.returns-in-Delete-clause-work
returns-in-Delete-clause-work g c =
    let p = c.args.params.now in
    let v = values_of p in
    let records = c.args.records.now in
    let dist = g.M.Metric.dist in
    let law : IsDistance dist v = λ a b is_a is_b.
    (g.met.M.Metric.defined _ a b (lawful_width p.metric p.dim p.eps p.minpts p.cap p.limits) is_a is_b).0 ∙ ap (λ k. distance_of k a b) (sym c.requires.kind) in
    λ by.
    let P : Change → Type 0 = λ ch. c.delete.new.steps ≤ c.args.steps.now + work_of (density_by v) records ch in
    let Q : Change → Type 0 = λ ch. IsChangeOf (width_of p.metric p.dim) ch in
    let R : Change → Type 0 = λ ch. IsSpelledChange p.metric p.dim ch in
    subst P (sym c.in-Delete.is) (worked by c.requires.held law (Delete c.in-Delete.number) (subst Q c.in-Delete.is c.requires.fits) (subst R c.in-Delete.is c.requires.spelled) c.args.steps.now c.delete.new.steps (c.delete.ensures.work by.stand))

pub returns-in-Delete-clause-tree : goal.returns-in-Delete-clause-tree
returns-in-Delete-clause-tree g c =
    let records = c.args.records.now in
    let dist = g.M.Metric.dist in
    let P : Change → Type 0 = λ ch. OnOk c.delete.result (c.delete.new.self.tree ≡ tree_after dist g.M.Metric.most records ch c.args.clusters.now.tree) in
    subst P (sym c.in-Delete.is) (removed_tree c.delete.result dist g.M.Metric.most c.args.clusters.now.tree c.delete.new.self.tree c.in-Delete.number (vector_at records c.in-Delete.number) c.delete.ensures.tree)

pub insert-requires-clause-fits : goal.insert-requires-clause-fits
insert-requires-clause-fits g c = c.requires.kept.fits

pub delete-requires-clause-fits : goal.delete-requires-clause-fits
delete-requires-clause-fits g c = c.requires.kept.fits

pub returns-in-Insert-clause-kept : goal.returns-in-Insert-clause-kept
returns-in-Insert-clause-kept g c =
    let p = c.args.params.now in
    let v = values_of p in
    let spelled = subst (λ (ch : Change). IsSpelledChange p.metric p.dim ch) c.in-Insert.is c.requires.spelled in
    kept_still c.insert.result v c.args.records.now c.insert.new.records c.args.clusters.now c.insert.new.self c.requires.kept c.insert.ensures.setting c.insert.ensures.fits
    (inserted_spelled c.insert.result v g.M.Metric.dist g.M.Metric.most c.args.clusters.now.tree c.insert.new.self.tree c.in-Insert.number c.in-Insert.vector c.insert.ensures.tree spelled c.requires.kept.spelled)

pub returns-in-Delete-clause-kept : goal.returns-in-Delete-clause-kept
returns-in-Delete-clause-kept g c =
    let v = values_of c.args.params.now in
    kept_still c.delete.result v c.args.records.now c.delete.new.records c.args.clusters.now c.delete.new.self c.requires.kept c.delete.ensures.setting c.delete.ensures.fits
    (removed_spelled c.delete.result v g.M.Metric.dist g.M.Metric.most c.args.clusters.now.tree c.delete.new.self.tree c.in-Delete.number (vector_at c.args.records.now c.in-Delete.number) c.delete.ensures.tree c.requires.kept.spelled)
