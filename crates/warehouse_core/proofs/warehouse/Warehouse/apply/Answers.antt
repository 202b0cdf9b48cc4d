use Rattle.std.proofs.Common.{◌≡◌, ◌+◌, ◌≤◌, ◌∙◌, List, Result, Ok, IfOk, OnOk, ap, subst, sym}
use Rattle.vec_record.specs.Distance.{distance_of}
use Rattle.page_layout.specs.Heads.{plain}
use Rattle.store_image.specs.Images.{image_with}
use Rattle.warehouse_core.specs.Applying.{due, IsTagged}
use Rattle.vec_record.specs.declared.change.Change.{Change}
use Rattle.plain_dbscan.specs.Marks.{density}
use Rattle.warehouse_core.specs.declared.refusal.Refusal.{Refusal}
use Rattle.warehouse_core.specs.Batches.{density_by}
use Rattle.warehouse_core.specs.Costs.{ArePaid, tree_after_all}
use Rattle.warehouse_core.specs.Work.{work_of_all}
use Rattle.warehouse_core.specs.States.{State, held_in}
use Rattle.warehouse_core.proofs.Alike.{lawful_width, stand_under}
use Rattle.warehouse_core.proofs.Found.{IsDistance}
use Rattle.warehouse_core.proofs.Moments.{inside, is_stored, stands, unwritten}
use Rattle.warehouse_core.proofs.Opened.{stand_due}
use Rattle.warehouse_core.proofs.Spent.{never_paid, never_worked}
use Rattle.warehouse_core.proofs.warehouse.Warehouse.apply.Goals as goal

pub returns-in-Ok-clause-moments : goal.returns-in-Ok-clause-moments
returns-in-Ok-clause-moments g c = λ told is.
    c.accept.ensures.moments told is c.args.body.now (ap (λ (w : State). due w c.args.body.now) (sym c.self.view_is) ∙ c.in-Ok.ensures.ok)

pub returns-then-eq-clause-moments : goal.returns-then-eq-clause-moments
returns-then-eq-clause-moments g c =
    let s = c.self.inside.state in
    let p = s.head.params in
    let was = image_with (plain s.head) s.records s.clusters in
    let standing = stands _ _ _ _ _ _ _ _ c.self.invariant c.self.view_is c.requires.whole in
    let law : IsDistance g.M.Metric.dist was.head.values = λ a b is_a is_b.
    (g.met.M.Metric.defined _ a b (lawful_width p.metric p.dim p.eps p.minpts p.cap p.limits) is_a is_b).0 ∙ ap (λ k. distance_of k a b) (sym standing.kind_is) in
    λ told is.
    let by = inside was c.self.inside.pages.list c.self.inside.stored c.self.inside.failed c.args.self.now c.self.view_is standing.holds.held.width is in
    let loads = standing.loads (is_stored was c.self.inside.pages.list c.self.inside.stored c.self.inside.failed c.args.self.now c.self.view_is c.requires.stored)
    (stand_under was.head.values was.records was.kept g.M.Metric.dist standing.holds.held.each law by) in
    let due_are = stand_due c.due_lines_stand.ensures was c.self.inside.pages.list loads by in
    unwritten c.loads_are_stores.ensures was c.self.inside.pages.list loads due_are _ _ _ _ _ _ c.self.view_is (c.requires.ready told) (g.met.T.Site.is_now c.args.site.now told)

pub returns-else-eq-clause-moments : goal.returns-else-eq-clause-moments
returns-else-eq-clause-moments g c =
    let s = c.self.inside.state in
    let p = s.head.params in
    let was = image_with (plain s.head) s.records s.clusters in
    let standing = stands _ _ _ _ _ _ _ _ c.self.invariant c.self.view_is c.requires.whole in
    let law : IsDistance g.M.Metric.dist was.head.values = λ a b is_a is_b.
    (g.met.M.Metric.defined _ a b (lawful_width p.metric p.dim p.eps p.minpts p.cap p.limits) is_a is_b).0 ∙ ap (λ k. distance_of k a b) (sym standing.kind_is) in
    λ told is.
    let by = inside was c.self.inside.pages.list c.self.inside.stored c.self.inside.failed c.args.self.now c.self.view_is standing.holds.held.width is in
    let loads = standing.loads (is_stored was c.self.inside.pages.list c.self.inside.stored c.self.inside.failed c.args.self.now c.self.view_is c.requires.stored)
    (stand_under was.head.values was.records was.kept g.M.Metric.dist standing.holds.held.each law by) in
    let due_are = stand_due c.due_lines_stand.ensures was c.self.inside.pages.list loads by in
    unwritten c.loads_are_stores.ensures was c.self.inside.pages.list loads due_are _ _ _ _ _ _ c.self.view_is (c.requires.ready told) (g.met.T.Site.is_now c.args.site.now told)

pub returns-in-Ok-clause-price : goal.returns-in-Ok-clause-price
returns-in-Ok-clause-price g c = λ clustered.
    let w = c.args.self.now in
    let is : due w c.args.body.now ≡ Ok c.in-Ok.changes = ap (λ (x : State). due x c.args.body.now) (sym c.self.view_is) ∙ c.in-Ok.ensures.ok in
    let P : Result (List Change) Refusal → Type 0 = λ r. IfOk r (λ changes. ArePaid g.M.Metric.most (density g.M.Metric.dist w.values.eps w.values.minpts) w.kept.tree (held_in w) changes c.args.steps.now c.accept.new.steps) in
    subst P (sym is) (c.accept.ensures.price clustered)

pub returns-in-Ok-clause-work : goal.returns-in-Ok-clause-work
returns-in-Ok-clause-work g c = λ clustered.
    let w = c.args.self.now in
    let is : due w c.args.body.now ≡ Ok c.in-Ok.changes = ap (λ (x : State). due x c.args.body.now) (sym c.self.view_is) ∙ c.in-Ok.ensures.ok in
    let P : Result (List Change) Refusal → Type 0 = λ r. IfOk r (λ changes. c.accept.new.steps ≤ c.args.steps.now + work_of_all (density_by w.values) (held_in w) changes) in
    subst P (sym is) (c.accept.ensures.work clustered)

pub returns-in-Ok-clause-tree : goal.returns-in-Ok-clause-tree
returns-in-Ok-clause-tree g c =
    let w = c.args.self.now in
    let is : due w c.args.body.now ≡ Ok c.in-Ok.changes = ap (λ (x : State). due x c.args.body.now) (sym c.self.view_is) ∙ c.in-Ok.ensures.ok in
    let P : Result (List Change) Refusal → Type 0 = λ r. OnOk c.accept.result (IfOk r (λ changes. IsTagged (tree_after_all g.M.Metric.dist g.M.Metric.most (held_in w) changes w.kept.tree) c.accept.new.self.kept.tree)) in
    subst P (sym is) c.accept.ensures.tree

pub returns-then-eq-clause-price : goal.returns-then-eq-clause-price
returns-then-eq-clause-price g c = λ clustered. never_paid (due c.args.self.now c.args.body.now) _ _ _ _ c.args.steps.now

pub returns-else-eq-clause-price : goal.returns-else-eq-clause-price
returns-else-eq-clause-price g c = λ clustered. never_paid (due c.args.self.now c.args.body.now) _ _ _ _ c.args.steps.now

pub returns-then-eq-clause-work : goal.returns-then-eq-clause-work
returns-then-eq-clause-work g c = λ clustered. never_worked (due c.args.self.now c.args.body.now) _ _ c.args.steps.now

pub returns-else-eq-clause-work : goal.returns-else-eq-clause-work
returns-else-eq-clause-work g c = λ clustered. never_worked (due c.args.self.now c.args.body.now) _ _ c.args.steps.now
