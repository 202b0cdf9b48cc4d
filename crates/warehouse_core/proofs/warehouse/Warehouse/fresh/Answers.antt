use Rattle.std.proofs.Common.{◌∙◌, false, refl, ap, sym}
use Rattle.vec_record.specs.Distance.{distance_of}
use Rattle.vec_record.specs.Limits.{width_of}
use Rattle.page_layout.specs.Heads.{Values, plain, values_of}
use Rattle.store_image.specs.Images.{image_with}
use Rattle.warehouse_core.proofs.Alike.{lawful_width}
use Rattle.warehouse_core.proofs.Fresh.{fresh_stands, fresh_stand_by}
use Rattle.warehouse_core.proofs.Found.{IsDistance}
use Rattle.warehouse_core.proofs.Moments.{outside}
use Rattle.warehouse_core.proofs.warehouse.Warehouse.fresh.Goals as goal

pub invariant_of-result : goal.invariant_of-result
invariant_of-result g c = λ whole.
    let p = c.args.params in
    let s = c.new-2.result in
    let i = image_with (plain s.head) s.records s.clusters in
    let new = c.new-2.ensures in
    fresh_stands g.M.Metric.dist (values_of p) i new.values new.width new.rows new.clusters new.stands g.M.Metric.KIND s.places c.new.result.list c.requires.kind

pub returns-clause-clustered : goal.returns-clause-clustered
returns-clause-clustered g c =
    let p = c.args.params in
    let s = c.new-2.result in
    let i = image_with (plain s.head) s.records s.clusters in
    let new = c.new-2.ensures in
    let law : IsDistance g.M.Metric.dist (values_of p) = λ a b is_a is_b.
    (g.met.M.Metric.defined _ a b (lawful_width p.metric p.dim p.eps p.minpts p.cap p.limits) is_a is_b).0 ∙ ap (λ k. distance_of k a b) (sym c.requires.kind) in
    let width = new.width ∙ ap (λ (v : Values). width_of v.metric v.dim) (sym new.values) in
    outside i c.new.result.list false false _ refl width
    (fresh_stand_by g.M.Metric.dist (values_of p) i new.values new.width new.rows new.clusters new.stands law)
