use Rattle.std.proofs.Common.{◌≡◌, sym, ap, subst, ◌∙◌}
use Rattle.vec_record.specs.Distance.{distance_of}
use Rattle.page_layout.specs.Heads.{plain}
use Rattle.store_image.specs.Images.{image_with}
use Rattle.warehouse_core.specs.Queries.{near_on}
use Rattle.warehouse_core.specs.States.{State}
use Rattle.warehouse_core.proofs.Alike.{lawful_width}
use Rattle.warehouse_core.proofs.Found.{IsDistance, near_found}
use Rattle.warehouse_core.proofs.Moments.{stands}
use Rattle.warehouse_core.proofs.warehouse.Warehouse.near.Goals as goal

pub near-requires : goal.near-requires
near-requires g c = (stands _ _ _ _ _ _ _ _ c.self.invariant c.self.view_is c.requires).kept.fits

pub returns-clause-near : goal.returns-clause-near
returns-clause-near g c =
    let s = c.self.inside.state in
    let p = s.head.params in
    let i = image_with (plain s.head) s.records s.clusters in
    let standing = stands _ _ _ _ _ _ _ _ c.self.invariant c.self.view_is c.requires in
    let law : IsDistance g.M.Metric.dist (plain s.head).values = λ a b is_a is_b.
    (g.met.M.Metric.defined _ a b (lawful_width p.metric p.dim p.eps p.minpts p.cap p.limits) is_a is_b).0 ∙ ap (λ k. distance_of k a b) (sym standing.kind_is) in
    let P : State → Type 0 = λ w. c.near.new.out ≡ near_on w.values w.rows c.args.number in
    λ found. subst P c.self.view_is (c.near.ensures.found found ∙ near_found standing.kept standing.holds.held law c.args.number)
