use Rattle.std.proofs.Common.{◌∙◌, ℕ, List, ap, sym, subst}
use Rattle.std.proofs.lemmas.Result.{err_from_is_err_and}
use Rattle.page_gate.specs.Promises.{Holds}
use Rattle.page_gate.specs.Writes.{pairs, written}
use Rattle.page_layout.specs.Heads.{plain}
use Rattle.store_image.specs.Images.{Image, image_with}
use Rattle.warehouse_core.proofs.Moments.{committed, faulted, no_want, planned, unsaved_yet}
use Rattle.warehouse_core.proofs.Stored.{new_due, hung_on}
use Rattle.warehouse_core.proofs.saving.save.Goals as goal

pub returns-in_err-commit-clause-told : goal.returns-in_err-commit-clause-told
returns-in_err-commit-clause-told g c = λ told by.
    let plan = c.in_ok-writes.ensures in
    let old = c.args.state.now in
    let new = c.plan_save.new.state in
    let is = image_with (plain new.head) new.records new.clusters in
    let loads = plan.loads (hung_on c.standing_are_hung.ensures _ _ _ old.clusters by) in
    let due = new_due c.due_lines_stand.ensures _ (image_with (plain old.head) old.records old.clusters) is c.args.pages.now.list loads plan.image (plan.stands _ _ by.stand) in
    let at = err_from_is_err_and c.from_residual-in_err-commit.result c.from_residual-in_err-commit.ensures.1 in
    let not_ok = faulted (Holds c.commit.new.pages.list (g.T.Site.state c.commit.new.site)) c.from_residual-in_err-commit.result at.0 at.1 at.2 in
    committed c.loads_are_stores.ensures c.args.pages.now.list _ is _ _ _ loads due (ap (λ (i : Image). i.head.values) plan.image) (ap (λ (i : Image). i.records.vectors) plan.image) (ap (λ (i : Image). i.head.batches) plan.image)
    _ _ _ _ _ (planned c.args.pages.now.list c.plan_save.new.pages.list _ (pairs c.in_ok-writes.writes) _ _ _ plan.same plan.written (c.in_err-commit.ensures.told told)) not_ok.0 not_ok.1

pub returns-clause-told : goal.returns-clause-told
returns-clause-told g c = λ told by.
    let plan = c.in_ok-writes.ensures in
    let old = c.args.state.now in
    let new = c.plan_save.new.state in
    let is = image_with (plain new.head) new.records new.clusters in
    let loads = plan.loads (hung_on c.standing_are_hung.ensures _ _ _ old.clusters by) in
    let due = new_due c.due_lines_stand.ensures _ (image_with (plain old.head) old.records old.clusters) is c.args.pages.now.list loads plan.image (plan.stands _ _ by.stand) in
    let commits = planned c.args.pages.now.list c.plan_save.new.pages.list _ (pairs c.in_ok-writes.writes) _ _ _ plan.same plan.written (c.in_ok-commit.ensures.told told) in
    let list = c.in_ok-commit.ensures.ok ∙ ap (λ (l : List (List ℕ)). written l (pairs c.in_ok-writes.writes)) plan.same ∙ plan.written in
    committed c.loads_are_stores.ensures c.args.pages.now.list _ is _ _ _ loads due (ap (λ (i : Image). i.head.values) plan.image) (ap (λ (i : Image). i.records.vectors) plan.image) (ap (λ (i : Image). i.head.batches) plan.image)
    _ _ _ _ _ commits no_want (subst (λ (l : List (List ℕ)). Holds l (g.T.Site.state c.commit.new.site)) (sym list) commits.holds)

pub returns-in_err-writes-clause-told : goal.returns-in_err-writes-clause-told
returns-in_err-writes-clause-told g c = λ told by.
    let p = err_from_is_err_and c.from_residual-in_err-writes.result c.from_residual-in_err-writes.ensures.1 in
    rw (p.1) (unsaved_yet _ _ _ _ _ p.0 _ (c.requires.ready told) (g.met.T.Site.is_now c.args.site.now told))

pub returns-clause-ready : goal.returns-clause-ready
returns-clause-ready g c = λ told.
    let plan = c.in_ok-writes.ensures in
    let commits = planned c.args.pages.now.list c.plan_save.new.pages.list _ (pairs c.in_ok-writes.writes) _ _ _ plan.same plan.written (c.in_ok-commit.ensures.told told) in
    let list = c.in_ok-commit.ensures.ok ∙ ap (λ (l : List (List ℕ)). written l (pairs c.in_ok-writes.writes)) plan.same ∙ plan.written in
    subst (λ (l : List (List ℕ)). Holds l (g.T.Site.state c.commit.new.site)) (sym list) commits.holds
