use Rattle.std.proofs.Common.{◌≡◌, ◌+◌, ◌*◌, ℕ, length, get_or, arith, ◌∙◌}
use Rattle.page_gate.specs.Steps.{InPlace}
use Rattle.page_gate.specs.Writes.{pairs, new_count}
use Rattle.page_gate.proofs.Lists.{length-pairs}
use Rattle.page_gate.proofs.Committing.{few, stage_done, after_stage, open_done, after_open, settle_done, after_settle, committed, behind, gave_up}
use Rattle.page_gate.proofs.redo.write_through.Goals as goal

pub stage-requires-clause-count : goal.stage-requires-clause-count
stage-requires-clause-count g c = omega (arith, few c.args._pages.now.list (pairs c.args.writes.now) c.requires.plan, length-pairs c.args.writes.now, c.new_count.ensures, c.new_count.type_inv)

pub stage-requires-clause-room : goal.stage-requires-clause-room
stage-requires-clause-room g c = omega (arith, few c.args._pages.now.list (pairs c.args.writes.now) c.requires.plan, length-pairs c.args.writes.now, c.new_count.ensures, c.new_count.type_inv, c.from-start.ensures)

pub returns-clause-told : goal.returns-clause-told
returns-clause-told g c = λ told.
    let top : ℕ = 16384 * c.from-start.result + 16392 * length c.args.writes.now in
    let is : 16384 * c.from-start.result ≡ 16384 * new_count (pairs c.args.writes.now) = omega (arith, c.from-start.ensures, c.new_count.ensures) in
    let first = stage_done c.args._pages.now.list (pairs c.args.writes.now) c.requires.plan (g.T.Site.state c.args.site.now) (c.requires.held told) (16384 * c.from-start.result) top is (c.in_ok-stage.ensures.told told) in
    let second = open_done c.args._pages.now.list (pairs c.args.writes.now) c.requires.plan (g.T.Site.state c.args.site.now) (c.requires.held told) first (c.in_ok-turn_gate.ensures.told told) in
    let third = settle_done c.args._pages.now.list (pairs c.args.writes.now) c.requires.plan (g.T.Site.state c.args.site.now) (c.requires.held told) second (c.in_ok-settle.ensures.told told) in
    committed c.args._pages.now.list (pairs c.args.writes.now) c.requires.plan (g.T.Site.state c.args.site.now) (c.requires.held told) third (c.turn_gate-2.ensures.told told)

pub returns-in_err-stage-clause-told : goal.returns-in_err-stage-clause-told
returns-in_err-stage-clause-told g c = λ told.
    let top : ℕ = 16384 * c.from-start.result + 16392 * length c.args.writes.now in
    let is : 16384 * c.from-start.result ≡ 16384 * new_count (pairs c.args.writes.now) = omega (arith, c.from-start.ensures, c.new_count.ensures) in
    let keeps = c.stage.ensures.told told in
    gave_up c.args._pages.now.list (pairs c.args.writes.now) c.requires.plan (g.T.Site.state c.args.site.now) (c.requires.held told) c.from_residual.result c.from_residual.ensures.0 (after_stage c.args._pages.now.list (pairs c.args.writes.now) c.requires.plan (g.T.Site.state c.args.site.now) (c.requires.held told) (16384 * c.from-start.result) top is keeps) keeps.puts.said

pub returns-in_err-turn_gate-clause-told : goal.returns-in_err-turn_gate-clause-told
returns-in_err-turn_gate-clause-told g c = λ told.
    let top : ℕ = 16384 * c.from-start.result + 16392 * length c.args.writes.now in
    let is : 16384 * c.from-start.result ≡ 16384 * new_count (pairs c.args.writes.now) = omega (arith, c.from-start.ensures, c.new_count.ensures) in
    let first = stage_done c.args._pages.now.list (pairs c.args.writes.now) c.requires.plan (g.T.Site.state c.args.site.now) (c.requires.held told) (16384 * c.from-start.result) top is (c.in_ok-stage.ensures.told told) in
    let keeps = c.turn_gate.ensures.told told in
    gave_up c.args._pages.now.list (pairs c.args.writes.now) c.requires.plan (g.T.Site.state c.args.site.now) (c.requires.held told) c.from_residual-in_err-turn_gate.result c.from_residual-in_err-turn_gate.ensures.0 (after_open c.args._pages.now.list (pairs c.args.writes.now) c.requires.plan (g.T.Site.state c.args.site.now) (c.requires.held told) (λ i. get_or i 1 0 ≡ 1) first keeps) (keeps.puts.said ∙ first.said)

pub returns-in_err-settle-clause-told : goal.returns-in_err-settle-clause-told
returns-in_err-settle-clause-told g c = λ told.
    let top : ℕ = 16384 * c.from-start.result + 16392 * length c.args.writes.now in
    let is : 16384 * c.from-start.result ≡ 16384 * new_count (pairs c.args.writes.now) = omega (arith, c.from-start.ensures, c.new_count.ensures) in
    let first = stage_done c.args._pages.now.list (pairs c.args.writes.now) c.requires.plan (g.T.Site.state c.args.site.now) (c.requires.held told) (16384 * c.from-start.result) top is (c.in_ok-stage.ensures.told told) in
    let second = open_done c.args._pages.now.list (pairs c.args.writes.now) c.requires.plan (g.T.Site.state c.args.site.now) (c.requires.held told) first (c.in_ok-turn_gate.ensures.told told) in
    let keeps = c.settle.ensures.told told in
    gave_up c.args._pages.now.list (pairs c.args.writes.now) c.requires.plan (g.T.Site.state c.args.site.now) (c.requires.held told) c.from_residual-in_err-settle.result c.from_residual-in_err-settle.ensures.0 (after_settle c.args._pages.now.list (pairs c.args.writes.now) c.requires.plan (g.T.Site.state c.args.site.now) (c.requires.held told) (InPlace (pairs c.args.writes.now)) second keeps) (keeps.puts.said ∙ second.said)

pub returns-clause-behind : goal.returns-clause-behind
returns-clause-behind g c = λ told.
    let top : ℕ = 16384 * c.from-start.result + 16392 * length c.args.writes.now in
    let is : 16384 * c.from-start.result ≡ 16384 * new_count (pairs c.args.writes.now) = omega (arith, c.from-start.ensures, c.new_count.ensures) in
    let first = stage_done c.args._pages.now.list (pairs c.args.writes.now) c.requires.plan (g.T.Site.state c.args.site.now) (c.requires.held told) (16384 * c.from-start.result) top is (c.in_ok-stage.ensures.told told) in
    let second = open_done c.args._pages.now.list (pairs c.args.writes.now) c.requires.plan (g.T.Site.state c.args.site.now) (c.requires.held told) first (c.in_ok-turn_gate.ensures.told told) in
    let third = settle_done c.args._pages.now.list (pairs c.args.writes.now) c.requires.plan (g.T.Site.state c.args.site.now) (c.requires.held told) second (c.in_ok-settle.ensures.told told) in
    behind c.args._pages.now.list (pairs c.args.writes.now) c.requires.plan (g.T.Site.state c.args.site.now) (c.requires.held told) third (c.turn_gate-2.ensures.told told)
