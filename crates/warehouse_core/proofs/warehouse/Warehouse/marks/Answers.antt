use Rattle.std.proofs.Common.{◌≡◌, IfOk, sym, ap, subst, ◌∙◌}
use Rattle.std.proofs.lemmas.Result.{IfOk-weaker}
use Rattle.vec_record.specs.Distance.{distance_of}
use Rattle.page_layout.specs.Heads.{plain}
use Rattle.store_image.specs.Images.{image_with}
use Rattle.plain_dbscan.specs.Cases.{Listed}
use Rattle.warehouse_core.specs.Batches.{marks_on}
use Rattle.warehouse_core.specs.States.{State}
use Rattle.warehouse_core.proofs.Alike.{lawful_width, stand_under}
use Rattle.warehouse_core.proofs.Found.{IsDistance, marks_found}
use Rattle.warehouse_core.proofs.Moments.{stands, inside}
use Rattle.warehouse_core.proofs.warehouse.Warehouse.marks.Goals as goal

pub returns : goal.returns
returns g c =
    let s = c.self.inside.state in
    let p = s.head.params in
    let i = image_with (plain s.head) s.records s.clusters in
    let standing = stands _ _ _ _ _ _ _ _ c.self.invariant c.self.view_is c.requires in
    let law : IsDistance g.M.Metric.dist (plain s.head).values = λ a b is_a is_b.
    (g.met.M.Metric.defined _ a b (lawful_width p.metric p.dim p.eps p.minpts p.cap p.limits) is_a is_b).0 ∙ ap (λ k. distance_of k a b) (sym standing.kind_is) in
    λ is.
    let by = stand_under (plain s.head).values s.records s.clusters g.M.Metric.dist standing.holds.held.each law
    (inside i c.self.inside.pages.list c.self.inside.stored c.self.inside.failed c.args.self.now c.self.view_is standing.holds.held.width is) in
    let P : State → Type 0 = λ w. IfOk c.marks.result (λ (marks : Listed). marks ≡ marks_on w.values w.rows) in
    subst P c.self.view_is (IfOk-weaker c.marks.result _ _ (λ marks is. is ∙ marks_found by standing.holds.held law) (c.marks.ensures by.stand))
