use Rattle.std.proofs.Common.{ℕ, ◌+◌, ◌-◌, ◌<◌, ◌≤◌, ◌≡◌, length, get_or, sym, ◌∙◌, ap, subst, arith}
use Rattle.page_gate.specs.Writes.{pairs}
use Rattle.page_layout.specs.Heads.{values_of}
use Rattle.page_layout.specs.Bodies.{body_bytes}
use Rattle.store_image.specs.Placing.{size_on}
use Rattle.store_image.specs.inside.Saves.{done_after, body_behind}
use Rattle.store_image.proofs.PlanBodies.{Planned, get_or_any, planned_next}
use Rattle.store_image.proofs.plan.plan_pages.Goals as goal

pub loop-number-preserved : goal.loop-number-preserved
loop-number-preserved g c =
    let s = c.args.state.now in
    let v = values_of s.head.params in
    let next = c.args.next.now in
    let old = c.args.pages.now.list in
    let number = c.loop-number.number in
    let kinds = next.laid.kinds.items in
    let below : number < 2 + length kinds = omega (arith, c.loop-number-test.true, c.requires.count) in
    let from : 2 ≤ number = c.loop-number.auto.number in
    let lt : number - 2 < length kinds = omega (arith, from, below) in
    let kind : c.index-kind.result.now ≡ get_or kinds (number - 2) 0 =
    c.index-kind.ensures ∙ get_or_any kinds (number - 2) c.index-kind.result.now 0 lt in
    let page : c.fill_body.new.out ≡ body_bytes v (body_behind (size_on v) (get_or kinds (number - 2) 0) c.loop-number.done next s.records.vectors s.clusters) =
    c.fill_body.ensures.filled ∙ ap (λ (k : ℕ). body_bytes v (body_behind (size_on v) k c.loop-number.done next s.records.vectors s.clusters)) kind in
    let done : c.fill_body.new.done ≡ done_after (size_on v) (get_or kinds (number - 2) 0) c.loop-number.done =
    c.fill_body.ensures.done ∙ ap (λ (k : ℕ). done_after (size_on v) k c.loop-number.done) kind in
    subst (λ d. Planned v old next s.records.vectors s.clusters (number + 1) d (pairs c.keep_changed-in-loop-number.new.writes)) (sym done)
    (planned_next v old next s.records.vectors s.clusters number c.loop-number.done (pairs c.loop-number.writes) (pairs c.keep_changed-in-loop-number.new.writes) c.fill_body.new.out from below c.loop-number.invariant page c.in_ok-keep_changed-2.ensures)
