use Rattle.std.proofs.Common.{◌≡◌, ◌∙◌, ◌++◌, ◌+◌, ℕ, false, List, ap, count_by, sym, subst, refl}
use Rattle.std.proofs.lemmas.Result.{err_from_is_err_and}
use Rattle.vec_record.specs.Distance.{distance_of}
use Rattle.vec_record.specs.declared.event.Event.{Event}
use Rattle.vec_record.specs.Limits.{width_of}
use Rattle.page_layout.specs.Heads.{Values, plain}
use Rattle.store_image.specs.Images.{image_with}
use Rattle.event_feed.specs.Meanings.{meanings, told_all}
use Rattle.warehouse_core.specs.Batches.{events_of}
use Rattle.warehouse_core.specs.Receipts.{is_deletion, is_insertion, receipt_text}
use Rattle.warehouse_core.specs.Inside.{state_of}
use Rattle.warehouse_core.specs.States.{State, IsClustered, StandBy}
use Rattle.warehouse_core.proofs.Accepted.{accepts, counted_receipt, saved_steps}
use Rattle.warehouse_core.proofs.After.{clustered_after, due_after, loads_after, stands_again, tagged_after}
use Rattle.warehouse_core.proofs.Alike.{lawful_width, stand_by, stand_under}
use Rattle.warehouse_core.proofs.Found.{IsDistance}
use Rattle.warehouse_core.proofs.Moments.{inside, is_stored, stands, unwritten}
use Rattle.warehouse_core.proofs.Opened.{stand_due}
use Rattle.warehouse_core.proofs.Spent.{paid_here, worked_here, tree_here}
use Rattle.warehouse_core.proofs.warehouse.Warehouse.accept.Goals as goal

pub returns-in_err-events-clause-moments : goal.returns-in_err-events-clause-moments
returns-in_err-events-clause-moments g c =
    let s = c.self.inside.state in
    let was = image_with (plain s.head) s.records s.clusters in
    let standing = stands _ _ _ _ _ _ _ _ c.self.invariant c.self.view_is c.requires.whole in
    let p = s.head.params in
    let law : IsDistance g.M.Metric.dist was.head.values = λ a b is_a is_b.
    (g.met.M.Metric.defined _ a b (lawful_width p.metric p.dim p.eps p.minpts p.cap p.limits) is_a is_b).0 ∙ ap (λ k. distance_of k a b) (sym standing.kind_is) in
    λ told is body accepted.
    let under = stand_under was.head.values was.records was.kept g.M.Metric.dist standing.holds.held.each law
    (inside was c.self.inside.pages.list c.self.inside.stored c.self.inside.failed c.args.self.now c.self.view_is standing.holds.held.width is) in
    let loads = standing.loads (is_stored was c.self.inside.pages.list c.self.inside.stored c.self.inside.failed c.args.self.now c.self.view_is c.requires.stored) under in
    let due_are = stand_due c.due_lines_stand.ensures was c.self.inside.pages.list loads (stand_by was.head.values was.records was.kept g.M.Metric.dist standing.holds.held.each law under) in
    unwritten c.loads_are_stores.ensures was c.self.inside.pages.list loads due_are body _ _ _ _ _ c.self.view_is (c.requires.ready told) (g.met.T.Site.is_now c.args.site.now told)

pub returns-in_err-line-clause-moments : goal.returns-in_err-line-clause-moments
returns-in_err-line-clause-moments g c =
    let s = c.self.inside.state in
    let was = image_with (plain s.head) s.records s.clusters in
    let standing = stands _ _ _ _ _ _ _ _ c.self.invariant c.self.view_is c.requires.whole in
    let p = s.head.params in
    let law : IsDistance g.M.Metric.dist was.head.values = λ a b is_a is_b.
    (g.met.M.Metric.defined _ a b (lawful_width p.metric p.dim p.eps p.minpts p.cap p.limits) is_a is_b).0 ∙ ap (λ k. distance_of k a b) (sym standing.kind_is) in
    λ told is body accepted.
    let under = stand_under was.head.values was.records was.kept g.M.Metric.dist standing.holds.held.each law
    (inside was c.self.inside.pages.list c.self.inside.stored c.self.inside.failed c.args.self.now c.self.view_is standing.holds.held.width is) in
    let loads = standing.loads (is_stored was c.self.inside.pages.list c.self.inside.stored c.self.inside.failed c.args.self.now c.self.view_is c.requires.stored) under in
    let due_are = stand_due c.due_lines_stand.ensures was c.self.inside.pages.list loads (stand_by was.head.values was.records was.kept g.M.Metric.dist standing.holds.held.each law under) in
    unwritten c.loads_are_stores.ensures was c.self.inside.pages.list loads due_are body _ _ _ _ _ c.self.view_is (c.requires.ready told) (g.met.T.Site.is_now c.args.site.now told)

pub returns-in_err-save-clause-moments : goal.returns-in_err-save-clause-moments
returns-in_err-save-clause-moments g c =
    let s = c.self.inside.state in
    let was = image_with (plain s.head) s.records s.clusters in
    let standing = stands _ _ _ _ _ _ _ _ c.self.invariant c.self.view_is c.requires.whole in
    let p = s.head.params in
    let law : IsDistance g.M.Metric.dist was.head.values = λ a b is_a is_b.
    (g.met.M.Metric.defined _ a b (lawful_width p.metric p.dim p.eps p.minpts p.cap p.limits) is_a is_b).0 ∙ ap (λ k. distance_of k a b) (sym standing.kind_is) in
    λ told is body accepted.
    let under = stand_under was.head.values was.records was.kept g.M.Metric.dist standing.holds.held.each law
    (inside was c.self.inside.pages.list c.self.inside.stored c.self.inside.failed c.args.self.now c.self.view_is standing.holds.held.width is) in
    let loads = standing.loads (is_stored was c.self.inside.pages.list c.self.inside.stored c.self.inside.failed c.args.self.now c.self.view_is c.requires.stored) under in
    let due_are = stand_due c.due_lines_stand.ensures was c.self.inside.pages.list loads (stand_by was.head.values was.records was.kept g.M.Metric.dist standing.holds.held.each law under) in
    let taken = c.in_ok-events.ensures in
    let after_by = stand_by was.head.values c.apply_changes.new.records c.apply_changes.new.clusters g.M.Metric.dist taken.holds.held.each law (taken.clusters under) in
    let p = err_from_is_err_and c.from_residual-in_err-save.result c.from_residual-in_err-save.ensures.1 in
    rw (p.1, p.2)
    (saved_steps c.loads_are_stores.ensures was c.self.inside.pages.list loads due_are c.args.changes c.apply_changes.new.records.vectors taken.records
    _ _ _ _ (c.in_err-save.ensures.told told after_by) _ _ _ body c.self.view_is accepted)

pub returns-clause-moments : goal.returns-clause-moments
returns-clause-moments g c =
    let s = c.self.inside.state in
    let was = image_with (plain s.head) s.records s.clusters in
    let standing = stands _ _ _ _ _ _ _ _ c.self.invariant c.self.view_is c.requires.whole in
    let p = s.head.params in
    let law : IsDistance g.M.Metric.dist was.head.values = λ a b is_a is_b.
    (g.met.M.Metric.defined _ a b (lawful_width p.metric p.dim p.eps p.minpts p.cap p.limits) is_a is_b).0 ∙ ap (λ k. distance_of k a b) (sym standing.kind_is) in
    λ told is body accepted.
    let under = stand_under was.head.values was.records was.kept g.M.Metric.dist standing.holds.held.each law
    (inside was c.self.inside.pages.list c.self.inside.stored c.self.inside.failed c.args.self.now c.self.view_is standing.holds.held.width is) in
    let loads = standing.loads (is_stored was c.self.inside.pages.list c.self.inside.stored c.self.inside.failed c.args.self.now c.self.view_is c.requires.stored) under in
    let due_are = stand_due c.due_lines_stand.ensures was c.self.inside.pages.list loads (stand_by was.head.values was.records was.kept g.M.Metric.dist standing.holds.held.each law under) in
    let taken = c.in_ok-events.ensures in
    let after_by = stand_by was.head.values c.apply_changes.new.records c.apply_changes.new.clusters g.M.Metric.dist taken.holds.held.each law (taken.clusters under) in
    saved_steps c.loads_are_stores.ensures was c.self.inside.pages.list loads due_are c.args.changes c.apply_changes.new.records.vectors taken.records
    _ _ _ _ (c.in_ok-save.ensures.told told after_by) _ _ _ body c.self.view_is accepted

pub returns-clause-ok : goal.returns-clause-ok
returns-clause-ok g c =
    let s = c.self.inside.state in
    let was = image_with (plain s.head) s.records s.clusters in
    let standing = stands _ _ _ _ _ _ _ _ c.self.invariant c.self.view_is c.requires.whole in
    let p = s.head.params in
    let law : IsDistance g.M.Metric.dist was.head.values = λ a b is_a is_b.
    (g.met.M.Metric.defined _ a b (lawful_width p.metric p.dim p.eps p.minpts p.cap p.limits) is_a is_b).0 ∙ ap (λ k. distance_of k a b) (sym standing.kind_is) in
    λ body accepted.
    let taken = c.in_ok-events.ensures in
    let saved = c.in_ok-save.ensures in
    let before = image_with (plain s.head) c.apply_changes.new.records c.apply_changes.new.clusters in
    let new = c.save.new.state in
    let after = image_with (plain new.head) new.records new.clusters in
    let has = is_stored was c.self.inside.pages.list c.self.inside.stored c.self.inside.failed c.args.self.now c.self.view_is c.requires.stored in
    let under : IsClustered c.args.self.now → StandBy g.M.Metric.dist was.head.values was.records was.kept = λ is.
    stand_under was.head.values was.records was.kept g.M.Metric.dist standing.holds.held.each law
    (inside was c.self.inside.pages.list c.self.inside.stored c.self.inside.failed c.args.self.now c.self.view_is standing.holds.held.width is) in
    let receipt : IsClustered c.args.self.now → c.save.new.out ≡ c.args.out.now ++ receipt_text (was.head.batches + 1) c.args.changes (events_of was.head.values was.records.vectors c.args.changes) = λ is.
    saved.text ∙ ap (λ (l : List ℕ). c.args.out.now ++ l) (c.as_slice-4.ensures
    ∙ counted_receipt (c.self.inside.state.head.batches + 1) c.count_insertions-insertions.result c.count_deletions-deletions.result c.args.changes c.as_slice-3.result.now _ c.in_ok-line.line c.in_ok-line.ensures
    (c.count_insertions-insertions.ensures ∙ ap (count_by is_insertion) c.as_slice.ensures) (c.count_deletions-deletions.ensures ∙ ap (count_by is_deletion) c.as_slice-2.ensures) (c.as_slice-3.ensures ∙ taken.events (under is))) in
    let width : after.records.width ≡ width_of after.head.values.metric after.head.values.dim =
    let P : Values → Type 0 = λ v. after.records.width ≡ width_of v.metric v.dim in
    let same : after.head.values ≡ was.head.values = λ j. (saved.image j).head.values in
    let wide : after.records.width ≡ before.records.width = λ j. (saved.image j).records.width in
    subst P (sym same) (wide ∙ taken.holds.held.width) in
    let now : IsClustered c.args.self.now → IsClustered (state_of after c.save.new.pages.list c.self.inside.stored false) = λ is.
    clustered_after c.self.inside.pages.list before after saved.image c.save.new.pages.list c.self.inside.stored width saved.kept
    (saved.stands _ _ (stand_by was.head.values before.records before.kept g.M.Metric.dist taken.holds.held.each law (taken.clusters (under is))).stand) in
    accepts c.args.changes was before after s.places new.places c.self.inside.pages.list c.save.new.pages.list (standing.paged has) refl taken.records saved.pages saved.image
    c.self.inside.stored c.self.inside.failed c.args.self.now c.self.view_is c.args.out.now c.save.new.out body c.requires.stored accepted now receipt
    (loads_after c.self.inside.pages.list before after saved.image c.save.new.pages.list c.self.inside.stored width c.standing_are_hung.ensures saved.loads)
    (due_after c.self.inside.pages.list before after saved.image c.save.new.pages.list c.self.inside.stored width c.standing_are_hung.ensures saved.loads c.due_lines_stand.ensures)

pub returns-clause-told : goal.returns-clause-told
returns-clause-told g c =
    let s = c.self.inside.state in
    let was = image_with (plain s.head) s.records s.clusters in
    let standing = stands _ _ _ _ _ _ _ _ c.self.invariant c.self.view_is c.requires.whole in
    let p = s.head.params in
    let law : IsDistance g.M.Metric.dist was.head.values = λ a b is_a is_b.
    (g.met.M.Metric.defined _ a b (lawful_width p.metric p.dim p.eps p.minpts p.cap p.limits) is_a is_b).0 ∙ ap (λ k. distance_of k a b) (sym standing.kind_is) in
    λ is.
    let under = stand_under was.head.values was.records was.kept g.M.Metric.dist standing.holds.held.each law
    (inside was c.self.inside.pages.list c.self.inside.stored c.self.inside.failed c.args.self.now c.self.view_is standing.holds.held.width is) in
    let before = meanings g.W.Watcher.says_after c.args.feed.now.slots.items in
    c.tell_all.ensures ∙ ap (λ (events : List Event). told_all events before) (c.in_ok-events.ensures.events under ∙ ap (λ (w : State). events_of w.values w.rows c.args.changes) c.self.view_is)

pub returns-in_err-events-clause-price : goal.returns-in_err-events-clause-price
returns-in_err-events-clause-price g c =
    let s = c.self.inside.state in
    let was = image_with (plain s.head) s.records s.clusters in
    let standing = stands _ _ _ _ _ _ _ _ c.self.invariant c.self.view_is c.requires.whole in
    let p = s.head.params in
    let law : IsDistance g.M.Metric.dist was.head.values = λ a b is_a is_b.
    (g.met.M.Metric.defined _ a b (lawful_width p.metric p.dim p.eps p.minpts p.cap p.limits) is_a is_b).0 ∙ ap (λ k. distance_of k a b) (sym standing.kind_is) in
    λ is.
    let under = stand_under was.head.values was.records was.kept g.M.Metric.dist standing.holds.held.each law
    (inside was c.self.inside.pages.list c.self.inside.stored c.self.inside.failed c.args.self.now c.self.view_is standing.holds.held.width is) in
    paid_here was c.self.inside.pages.list c.self.inside.stored c.self.inside.failed c.args.self.now c.self.view_is standing.holds.held.width
    c.args.changes c.args.steps.now c.apply_changes.new.steps g.M.Metric.dist g.M.Metric.most (c.apply_changes.ensures.price under)

pub returns-in_err-events-clause-work : goal.returns-in_err-events-clause-work
returns-in_err-events-clause-work g c =
    let s = c.self.inside.state in
    let was = image_with (plain s.head) s.records s.clusters in
    let standing = stands _ _ _ _ _ _ _ _ c.self.invariant c.self.view_is c.requires.whole in
    let p = s.head.params in
    let law : IsDistance g.M.Metric.dist was.head.values = λ a b is_a is_b.
    (g.met.M.Metric.defined _ a b (lawful_width p.metric p.dim p.eps p.minpts p.cap p.limits) is_a is_b).0 ∙ ap (λ k. distance_of k a b) (sym standing.kind_is) in
    λ is.
    let under = stand_under was.head.values was.records was.kept g.M.Metric.dist standing.holds.held.each law
    (inside was c.self.inside.pages.list c.self.inside.stored c.self.inside.failed c.args.self.now c.self.view_is standing.holds.held.width is) in
    worked_here was c.self.inside.pages.list c.self.inside.stored c.self.inside.failed c.args.self.now c.self.view_is standing.holds.held.width
    c.args.changes c.args.steps.now c.apply_changes.new.steps (c.apply_changes.ensures.work under)

pub returns-in_err-line-clause-price : goal.returns-in_err-line-clause-price
returns-in_err-line-clause-price g c =
    let s = c.self.inside.state in
    let was = image_with (plain s.head) s.records s.clusters in
    let standing = stands _ _ _ _ _ _ _ _ c.self.invariant c.self.view_is c.requires.whole in
    let p = s.head.params in
    let law : IsDistance g.M.Metric.dist was.head.values = λ a b is_a is_b.
    (g.met.M.Metric.defined _ a b (lawful_width p.metric p.dim p.eps p.minpts p.cap p.limits) is_a is_b).0 ∙ ap (λ k. distance_of k a b) (sym standing.kind_is) in
    λ is.
    let under = stand_under was.head.values was.records was.kept g.M.Metric.dist standing.holds.held.each law
    (inside was c.self.inside.pages.list c.self.inside.stored c.self.inside.failed c.args.self.now c.self.view_is standing.holds.held.width is) in
    paid_here was c.self.inside.pages.list c.self.inside.stored c.self.inside.failed c.args.self.now c.self.view_is standing.holds.held.width
    c.args.changes c.args.steps.now c.apply_changes.new.steps g.M.Metric.dist g.M.Metric.most (c.apply_changes.ensures.price under)

pub returns-in_err-line-clause-work : goal.returns-in_err-line-clause-work
returns-in_err-line-clause-work g c =
    let s = c.self.inside.state in
    let was = image_with (plain s.head) s.records s.clusters in
    let standing = stands _ _ _ _ _ _ _ _ c.self.invariant c.self.view_is c.requires.whole in
    let p = s.head.params in
    let law : IsDistance g.M.Metric.dist was.head.values = λ a b is_a is_b.
    (g.met.M.Metric.defined _ a b (lawful_width p.metric p.dim p.eps p.minpts p.cap p.limits) is_a is_b).0 ∙ ap (λ k. distance_of k a b) (sym standing.kind_is) in
    λ is.
    let under = stand_under was.head.values was.records was.kept g.M.Metric.dist standing.holds.held.each law
    (inside was c.self.inside.pages.list c.self.inside.stored c.self.inside.failed c.args.self.now c.self.view_is standing.holds.held.width is) in
    worked_here was c.self.inside.pages.list c.self.inside.stored c.self.inside.failed c.args.self.now c.self.view_is standing.holds.held.width
    c.args.changes c.args.steps.now c.apply_changes.new.steps (c.apply_changes.ensures.work under)

pub returns-in_err-save-clause-price : goal.returns-in_err-save-clause-price
returns-in_err-save-clause-price g c =
    let s = c.self.inside.state in
    let was = image_with (plain s.head) s.records s.clusters in
    let standing = stands _ _ _ _ _ _ _ _ c.self.invariant c.self.view_is c.requires.whole in
    let p = s.head.params in
    let law : IsDistance g.M.Metric.dist was.head.values = λ a b is_a is_b.
    (g.met.M.Metric.defined _ a b (lawful_width p.metric p.dim p.eps p.minpts p.cap p.limits) is_a is_b).0 ∙ ap (λ k. distance_of k a b) (sym standing.kind_is) in
    λ is.
    let under = stand_under was.head.values was.records was.kept g.M.Metric.dist standing.holds.held.each law
    (inside was c.self.inside.pages.list c.self.inside.stored c.self.inside.failed c.args.self.now c.self.view_is standing.holds.held.width is) in
    paid_here was c.self.inside.pages.list c.self.inside.stored c.self.inside.failed c.args.self.now c.self.view_is standing.holds.held.width
    c.args.changes c.args.steps.now c.apply_changes.new.steps g.M.Metric.dist g.M.Metric.most (c.apply_changes.ensures.price under)

pub returns-in_err-save-clause-work : goal.returns-in_err-save-clause-work
returns-in_err-save-clause-work g c =
    let s = c.self.inside.state in
    let was = image_with (plain s.head) s.records s.clusters in
    let standing = stands _ _ _ _ _ _ _ _ c.self.invariant c.self.view_is c.requires.whole in
    let p = s.head.params in
    let law : IsDistance g.M.Metric.dist was.head.values = λ a b is_a is_b.
    (g.met.M.Metric.defined _ a b (lawful_width p.metric p.dim p.eps p.minpts p.cap p.limits) is_a is_b).0 ∙ ap (λ k. distance_of k a b) (sym standing.kind_is) in
    λ is.
    let under = stand_under was.head.values was.records was.kept g.M.Metric.dist standing.holds.held.each law
    (inside was c.self.inside.pages.list c.self.inside.stored c.self.inside.failed c.args.self.now c.self.view_is standing.holds.held.width is) in
    worked_here was c.self.inside.pages.list c.self.inside.stored c.self.inside.failed c.args.self.now c.self.view_is standing.holds.held.width
    c.args.changes c.args.steps.now c.apply_changes.new.steps (c.apply_changes.ensures.work under)

pub returns-clause-price : goal.returns-clause-price
returns-clause-price g c =
    let s = c.self.inside.state in
    let was = image_with (plain s.head) s.records s.clusters in
    let standing = stands _ _ _ _ _ _ _ _ c.self.invariant c.self.view_is c.requires.whole in
    let p = s.head.params in
    let law : IsDistance g.M.Metric.dist was.head.values = λ a b is_a is_b.
    (g.met.M.Metric.defined _ a b (lawful_width p.metric p.dim p.eps p.minpts p.cap p.limits) is_a is_b).0 ∙ ap (λ k. distance_of k a b) (sym standing.kind_is) in
    λ is.
    let under = stand_under was.head.values was.records was.kept g.M.Metric.dist standing.holds.held.each law
    (inside was c.self.inside.pages.list c.self.inside.stored c.self.inside.failed c.args.self.now c.self.view_is standing.holds.held.width is) in
    paid_here was c.self.inside.pages.list c.self.inside.stored c.self.inside.failed c.args.self.now c.self.view_is standing.holds.held.width
    c.args.changes c.args.steps.now c.apply_changes.new.steps g.M.Metric.dist g.M.Metric.most (c.apply_changes.ensures.price under)

pub returns-clause-work : goal.returns-clause-work
returns-clause-work g c =
    let s = c.self.inside.state in
    let was = image_with (plain s.head) s.records s.clusters in
    let standing = stands _ _ _ _ _ _ _ _ c.self.invariant c.self.view_is c.requires.whole in
    let p = s.head.params in
    let law : IsDistance g.M.Metric.dist was.head.values = λ a b is_a is_b.
    (g.met.M.Metric.defined _ a b (lawful_width p.metric p.dim p.eps p.minpts p.cap p.limits) is_a is_b).0 ∙ ap (λ k. distance_of k a b) (sym standing.kind_is) in
    λ is.
    let under = stand_under was.head.values was.records was.kept g.M.Metric.dist standing.holds.held.each law
    (inside was c.self.inside.pages.list c.self.inside.stored c.self.inside.failed c.args.self.now c.self.view_is standing.holds.held.width is) in
    worked_here was c.self.inside.pages.list c.self.inside.stored c.self.inside.failed c.args.self.now c.self.view_is standing.holds.held.width
    c.args.changes c.args.steps.now c.apply_changes.new.steps (c.apply_changes.ensures.work under)

pub returns-clause-tree : goal.returns-clause-tree
returns-clause-tree g c =
    let s = c.self.inside.state in
    let was = image_with (plain s.head) s.records s.clusters in
    let standing = stands _ _ _ _ _ _ _ _ c.self.invariant c.self.view_is c.requires.whole in
    let before = image_with (plain s.head) c.apply_changes.new.records c.apply_changes.new.clusters in
    let new = c.save.new.state in
    tagged_after c.self.inside.pages.list before (image_with (plain new.head) new.records new.clusters) c.in_ok-save.ensures.image _
    (tree_here was c.self.inside.pages.list c.self.inside.stored c.self.inside.failed c.args.self.now c.self.view_is standing.holds.held.width
    c.args.changes c.args.steps.now c.apply_changes.new.steps g.M.Metric.dist g.M.Metric.most c.apply_changes.new.clusters.tree c.in_ok-events.ensures.tree)

pub save-requires-clause-paged : goal.save-requires-clause-paged
save-requires-clause-paged g c =
    let s = c.self.inside.state in
    let was = image_with (plain s.head) s.records s.clusters in
    let standing = stands _ _ _ _ _ _ _ _ c.self.invariant c.self.view_is c.requires.whole in
    standing.paged (is_stored was c.self.inside.pages.list c.self.inside.stored c.self.inside.failed c.args.self.now c.self.view_is c.requires.stored)

pub invariant_of-self-2 : goal.invariant_of-self-2
invariant_of-self-2 g c = λ whole.
    let s = c.self.inside.state in
    let standing = stands _ _ _ _ _ _ _ _ c.self.invariant c.self.view_is c.requires.whole in
    let taken = c.in_ok-events.ensures in
    let saved = c.in_ok-save.ensures in
    let before = image_with (plain s.head) c.apply_changes.new.records c.apply_changes.new.clusters in
    let new = c.save.new.state in
    stands_again c.self.inside.pages.list before (image_with (plain new.head) new.records new.clusters) saved.image g.M.Metric.dist g.M.Metric.KIND c.self.inside.stored new.places c.save.new.pages.list
    c.standing_are_hung.ensures saved.loads saved.paged standing.kind_is taken.holds saved.kept
