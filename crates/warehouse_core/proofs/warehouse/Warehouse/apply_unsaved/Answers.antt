use Rattle.std.proofs.Common.{◌≡◌, ◌++◌, ◌+◌, ◌≤◌, false, List, refl, ap, sym, subst, ◌∙◌}
use Rattle.vec_record.specs.Distance.{distance_of}
use Rattle.vec_record.specs.declared.event.Event.{Event}
use Rattle.plain_dbscan.specs.Marks.{density}
use Rattle.page_layout.specs.Heads.{plain}
use Rattle.store_image.specs.Images.{image_with}
use Rattle.warehouse_core.specs.Batches.{density_by, events_of}
use Rattle.warehouse_core.specs.Costs.{ArePaid}
use Rattle.warehouse_core.specs.Work.{work_of_all}
use Rattle.std.specs.List.{AllByRecursion}
use Rattle.vec_record.specs.Limits.{width_of}
use Rattle.vec_record.specs.declared.change.Change.{Change}
use Rattle.batch_text.specs.Batch.{IsChangeOf, IsSpelledChange}
use Rattle.warehouse_core.specs.States.{State, held_in}
use Rattle.warehouse_core.proofs.Alike.{lawful_width, stand_by, stand_under}
use Rattle.warehouse_core.proofs.Applied.{nothing_paid}
use Rattle.warehouse_core.proofs.Found.{IsDistance}
use Rattle.warehouse_core.proofs.Moments.{inside, outside, stands}
use Rattle.warehouse_core.proofs.Spent.{paid_here, worked_here}
use Rattle.warehouse_core.proofs.warehouse.Warehouse.apply_unsaved.Goals as goal

pub returns-in_err-own-clause-price : goal.returns-in_err-own-clause-price
returns-in_err-own-clause-price g c = λ is. nothing_paid _ _ _ _ c.args.changes.now c.args.steps.now

pub apply_changes-requires-clause-fits : goal.apply_changes-requires-clause-fits
apply_changes-requires-clause-fits g c =
    let P : State → Type 0 = λ x. AllByRecursion (IsChangeOf (width_of x.values.metric x.values.dim)) c.args.changes.now in
    let Q : List Change → Type 0 = λ changes. AllByRecursion (IsChangeOf (width_of c.self.inside.state.head.params.metric c.self.inside.state.head.params.dim)) changes in
    subst Q (sym (c.in_ok-own.ensures ∙ c.as_slice.ensures)) (subst P (sym c.self.view_is) c.requires.fits)

pub apply_changes-requires-clause-spelled : goal.apply_changes-requires-clause-spelled
apply_changes-requires-clause-spelled g c =
    let P : State → Type 0 = λ x. AllByRecursion (IsSpelledChange x.values.metric x.values.dim) c.args.changes.now in
    let Q : List Change → Type 0 = λ changes. AllByRecursion (IsSpelledChange c.self.inside.state.head.params.metric c.self.inside.state.head.params.dim) changes in
    subst Q (sym (c.in_ok-own.ensures ∙ c.as_slice.ensures)) (subst P (sym c.self.view_is) c.requires.spelled)

pub returns-in_err-events-clause-price : goal.returns-in_err-events-clause-price
returns-in_err-events-clause-price g c =
    let s = c.self.inside.state in
    let p = s.head.params in
    let was = image_with (plain s.head) s.records s.clusters in
    let standing = stands _ _ _ _ _ _ _ _ c.self.invariant c.self.view_is c.requires.whole in
    let law : IsDistance g.M.Metric.dist was.head.values = λ a b is_a is_b.
    (g.met.M.Metric.defined _ a b (lawful_width p.metric p.dim p.eps p.minpts p.cap p.limits) is_a is_b).0 ∙ ap (λ k. distance_of k a b) (sym standing.kind_is) in
    λ is.
    let under = stand_under was.head.values was.records was.kept g.M.Metric.dist standing.holds.held.each law
    (inside was c.self.inside.pages.list c.self.inside.stored c.self.inside.failed c.args.self.now c.self.view_is standing.holds.held.width is) in
    let P : List Change → Type 0 = λ cs. ArePaid g.M.Metric.most (density g.M.Metric.dist c.args.self.now.values.eps c.args.self.now.values.minpts) c.args.self.now.kept.tree (held_in c.args.self.now) cs c.args.steps.now c.apply_changes.new.steps in
    subst P (c.in_ok-own.ensures ∙ c.as_slice.ensures)
    (paid_here was c.self.inside.pages.list c.self.inside.stored c.self.inside.failed c.args.self.now c.self.view_is standing.holds.held.width
    c.in_ok-own.own c.args.steps.now c.apply_changes.new.steps g.M.Metric.dist g.M.Metric.most (c.apply_changes.ensures.price under))

pub returns-in_err-events-clause-work : goal.returns-in_err-events-clause-work
returns-in_err-events-clause-work g c =
    let s = c.self.inside.state in
    let p = s.head.params in
    let was = image_with (plain s.head) s.records s.clusters in
    let standing = stands _ _ _ _ _ _ _ _ c.self.invariant c.self.view_is c.requires.whole in
    let law : IsDistance g.M.Metric.dist was.head.values = λ a b is_a is_b.
    (g.met.M.Metric.defined _ a b (lawful_width p.metric p.dim p.eps p.minpts p.cap p.limits) is_a is_b).0 ∙ ap (λ k. distance_of k a b) (sym standing.kind_is) in
    λ is.
    let under = stand_under was.head.values was.records was.kept g.M.Metric.dist standing.holds.held.each law
    (inside was c.self.inside.pages.list c.self.inside.stored c.self.inside.failed c.args.self.now c.self.view_is standing.holds.held.width is) in
    let P : List Change → Type 0 = λ cs. c.apply_changes.new.steps ≤ c.args.steps.now + work_of_all (density_by c.args.self.now.values) (held_in c.args.self.now) cs in
    subst P (c.in_ok-own.ensures ∙ c.as_slice.ensures)
    (worked_here was c.self.inside.pages.list c.self.inside.stored c.self.inside.failed c.args.self.now c.self.view_is standing.holds.held.width
    c.in_ok-own.own c.args.steps.now c.apply_changes.new.steps (c.apply_changes.ensures.work under))

pub returns-in_err-append_events-clause-price : goal.returns-in_err-append_events-clause-price
returns-in_err-append_events-clause-price g c =
    let s = c.self.inside.state in
    let p = s.head.params in
    let was = image_with (plain s.head) s.records s.clusters in
    let standing = stands _ _ _ _ _ _ _ _ c.self.invariant c.self.view_is c.requires.whole in
    let law : IsDistance g.M.Metric.dist was.head.values = λ a b is_a is_b.
    (g.met.M.Metric.defined _ a b (lawful_width p.metric p.dim p.eps p.minpts p.cap p.limits) is_a is_b).0 ∙ ap (λ k. distance_of k a b) (sym standing.kind_is) in
    λ is.
    let under = stand_under was.head.values was.records was.kept g.M.Metric.dist standing.holds.held.each law
    (inside was c.self.inside.pages.list c.self.inside.stored c.self.inside.failed c.args.self.now c.self.view_is standing.holds.held.width is) in
    let P : List Change → Type 0 = λ cs. ArePaid g.M.Metric.most (density g.M.Metric.dist c.args.self.now.values.eps c.args.self.now.values.minpts) c.args.self.now.kept.tree (held_in c.args.self.now) cs c.args.steps.now c.apply_changes.new.steps in
    subst P (c.in_ok-own.ensures ∙ c.as_slice.ensures)
    (paid_here was c.self.inside.pages.list c.self.inside.stored c.self.inside.failed c.args.self.now c.self.view_is standing.holds.held.width
    c.in_ok-own.own c.args.steps.now c.apply_changes.new.steps g.M.Metric.dist g.M.Metric.most (c.apply_changes.ensures.price under))

pub returns-in_err-append_events-clause-work : goal.returns-in_err-append_events-clause-work
returns-in_err-append_events-clause-work g c =
    let s = c.self.inside.state in
    let p = s.head.params in
    let was = image_with (plain s.head) s.records s.clusters in
    let standing = stands _ _ _ _ _ _ _ _ c.self.invariant c.self.view_is c.requires.whole in
    let law : IsDistance g.M.Metric.dist was.head.values = λ a b is_a is_b.
    (g.met.M.Metric.defined _ a b (lawful_width p.metric p.dim p.eps p.minpts p.cap p.limits) is_a is_b).0 ∙ ap (λ k. distance_of k a b) (sym standing.kind_is) in
    λ is.
    let under = stand_under was.head.values was.records was.kept g.M.Metric.dist standing.holds.held.each law
    (inside was c.self.inside.pages.list c.self.inside.stored c.self.inside.failed c.args.self.now c.self.view_is standing.holds.held.width is) in
    let P : List Change → Type 0 = λ cs. c.apply_changes.new.steps ≤ c.args.steps.now + work_of_all (density_by c.args.self.now.values) (held_in c.args.self.now) cs in
    subst P (c.in_ok-own.ensures ∙ c.as_slice.ensures)
    (worked_here was c.self.inside.pages.list c.self.inside.stored c.self.inside.failed c.args.self.now c.self.view_is standing.holds.held.width
    c.in_ok-own.own c.args.steps.now c.apply_changes.new.steps (c.apply_changes.ensures.work under))

pub returns-clause-price : goal.returns-clause-price
returns-clause-price g c =
    let s = c.self.inside.state in
    let p = s.head.params in
    let was = image_with (plain s.head) s.records s.clusters in
    let standing = stands _ _ _ _ _ _ _ _ c.self.invariant c.self.view_is c.requires.whole in
    let law : IsDistance g.M.Metric.dist was.head.values = λ a b is_a is_b.
    (g.met.M.Metric.defined _ a b (lawful_width p.metric p.dim p.eps p.minpts p.cap p.limits) is_a is_b).0 ∙ ap (λ k. distance_of k a b) (sym standing.kind_is) in
    λ is.
    let under = stand_under was.head.values was.records was.kept g.M.Metric.dist standing.holds.held.each law
    (inside was c.self.inside.pages.list c.self.inside.stored c.self.inside.failed c.args.self.now c.self.view_is standing.holds.held.width is) in
    let P : List Change → Type 0 = λ cs. ArePaid g.M.Metric.most (density g.M.Metric.dist c.args.self.now.values.eps c.args.self.now.values.minpts) c.args.self.now.kept.tree (held_in c.args.self.now) cs c.args.steps.now c.apply_changes.new.steps in
    subst P (c.in_ok-own.ensures ∙ c.as_slice.ensures)
    (paid_here was c.self.inside.pages.list c.self.inside.stored c.self.inside.failed c.args.self.now c.self.view_is standing.holds.held.width
    c.in_ok-own.own c.args.steps.now c.apply_changes.new.steps g.M.Metric.dist g.M.Metric.most (c.apply_changes.ensures.price under))

pub returns-clause-work : goal.returns-clause-work
returns-clause-work g c =
    let s = c.self.inside.state in
    let p = s.head.params in
    let was = image_with (plain s.head) s.records s.clusters in
    let standing = stands _ _ _ _ _ _ _ _ c.self.invariant c.self.view_is c.requires.whole in
    let law : IsDistance g.M.Metric.dist was.head.values = λ a b is_a is_b.
    (g.met.M.Metric.defined _ a b (lawful_width p.metric p.dim p.eps p.minpts p.cap p.limits) is_a is_b).0 ∙ ap (λ k. distance_of k a b) (sym standing.kind_is) in
    λ is.
    let under = stand_under was.head.values was.records was.kept g.M.Metric.dist standing.holds.held.each law
    (inside was c.self.inside.pages.list c.self.inside.stored c.self.inside.failed c.args.self.now c.self.view_is standing.holds.held.width is) in
    let P : List Change → Type 0 = λ cs. c.apply_changes.new.steps ≤ c.args.steps.now + work_of_all (density_by c.args.self.now.values) (held_in c.args.self.now) cs in
    subst P (c.in_ok-own.ensures ∙ c.as_slice.ensures)
    (worked_here was c.self.inside.pages.list c.self.inside.stored c.self.inside.failed c.args.self.now c.self.view_is standing.holds.held.width
    c.in_ok-own.own c.args.steps.now c.apply_changes.new.steps (c.apply_changes.ensures.work under))

pub returns-clause-events : goal.returns-clause-events
returns-clause-events g c =
    let s = c.self.inside.state in
    let p = s.head.params in
    let was = image_with (plain s.head) s.records s.clusters in
    let standing = stands _ _ _ _ _ _ _ _ c.self.invariant c.self.view_is c.requires.whole in
    let law : IsDistance g.M.Metric.dist was.head.values = λ a b is_a is_b.
    (g.met.M.Metric.defined _ a b (lawful_width p.metric p.dim p.eps p.minpts p.cap p.limits) is_a is_b).0 ∙ ap (λ k. distance_of k a b) (sym standing.kind_is) in
    λ is.
    let under = stand_under was.head.values was.records was.kept g.M.Metric.dist standing.holds.held.each law
    (inside was c.self.inside.pages.list c.self.inside.stored c.self.inside.failed c.args.self.now c.self.view_is standing.holds.held.width is) in
    let told = c.in_ok-events.ensures.events under in
    let P : List Change → Type 0 = λ cs. c.in_ok-events.events ≡ events_of was.head.values was.records.vectors cs in
    let here : P c.args.changes.now = subst P (c.in_ok-own.ensures ∙ c.as_slice.ensures) told in
    let Q : State → Type 0 = λ w. c.in_ok-events.events ≡ events_of w.values w.rows c.args.changes.now in
    c.in_ok-append_events.ensures ∙ ap (λ (es : List Event). c.args.out.now ++ es) (c.as_slice-2.ensures ∙ subst Q c.self.view_is here)

pub returns-clause-clustered : goal.returns-clause-clustered
returns-clause-clustered g c =
    let s = c.self.inside.state in
    let p = s.head.params in
    let was = image_with (plain s.head) s.records s.clusters in
    let standing = stands _ _ _ _ _ _ _ _ c.self.invariant c.self.view_is c.requires.whole in
    let law : IsDistance g.M.Metric.dist was.head.values = λ a b is_a is_b.
    (g.met.M.Metric.defined _ a b (lawful_width p.metric p.dim p.eps p.minpts p.cap p.limits) is_a is_b).0 ∙ ap (λ k. distance_of k a b) (sym standing.kind_is) in
    λ is.
    let under = stand_under was.head.values was.records was.kept g.M.Metric.dist standing.holds.held.each law
    (inside was c.self.inside.pages.list c.self.inside.stored c.self.inside.failed c.args.self.now c.self.view_is standing.holds.held.width is) in
    let taken = c.in_ok-events.ensures in
    let new = image_with (plain s.head) c.apply_changes.new.records c.apply_changes.new.clusters in
    outside new c.self.inside.pages.list c.self.inside.stored false _ refl taken.holds.held.width
    (stand_by new.head.values new.records new.kept g.M.Metric.dist taken.holds.held.each law (taken.clusters under))
