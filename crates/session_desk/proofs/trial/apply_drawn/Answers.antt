use Rattle.std.proofs.Common.{◌≡◌, ◌≤◌, ◌∙◌, ◌-◌, ◌+◌, ℕ, suc, [], ◌∷◌, ap, subst, arith}
use Rattle.vec_record.specs.Held.{Rows}
use Rattle.vec_record.specs.declared.change.Change.{Change}
use Rattle.event_feed.specs.Meanings.{Slots, meanings, told_all}
use Rattle.warehouse_core.specs.Batches.{density_by, events_of, rows_after}
use Rattle.warehouse_core.specs.Work.{work_of}
use Rattle.session_desk.specs.Trial.{trial_values, draw, drawn_change, last_draw, held_on}
use Rattle.session_desk.proofs.Trials.{HasDrawn, HasCounted, draws_begin, draws_go_on, draws_end, rows_next, counts_begin, counts_within, counts_go_on}
use Rattle.session_desk.proofs.trial.apply_drawn.Goals as goal

pub loop-init : goal.loop-init
loop-init g c =
    let slots : Slots = meanings g.W.Watcher.says_after c.args.feed.now.slots.items in
    let seed = c.args.trial.seed in
    let count = c.args.trial.count in
    let w = c.args.warehouse.now in
    let P : ℕ → Type 0 = λ n. HasDrawn seed count slots slots w seed n × HasCounted seed count c.args.steps.now c.args.steps.now w seed n in
    let all : count ≡ count - 0 = omega arith in
    subst P all (draws_begin seed count slots w c.requires.unsaved c.requires.none, counts_begin seed count c.args.steps.now w c.requires.none)

pub loop-preserved : goal.loop-preserved
loop-preserved g c =
    let before : Slots = meanings g.W.Watcher.says_after c.args.feed.now.slots.items in
    let now : Slots = meanings g.W.Watcher.says_after c.loop.feed.slots.items in
    let seed = c.args.trial.seed in
    let count = c.args.trial.count in
    let w = c.loop.warehouse in
    let left = count - (c.loop.counter + 1) in
    let P : ℕ → Type 0 = λ n. HasDrawn seed count before now w c.loop.x n in
    let Q : ℕ → Type 0 = λ n. HasCounted seed count c.args.steps.now c.loop.steps w c.loop.x n in
    let more : count - c.loop.counter ≡ suc left = omega arith in
    let drawn : HasDrawn seed count before now w c.loop.x (suc left) = subst P more c.loop.invariant.0 in
    let change : c.in_ok-drawn.drawn.change ≡ drawn_change count (draw c.loop.x) w.rows =
    c.in_ok-drawn.ensures.change ∙ ap (λ (r : Rows). drawn_change count (draw c.loop.x) r) c.records.ensures.vectors in
    let last : c.in_ok-drawn.drawn.last ≡ last_draw count (draw c.loop.x) w.rows =
    c.in_ok-drawn.ensures.last ∙ ap (λ (r : Rows). last_draw count (draw c.loop.x) r) c.records.ensures.vectors in
    let done = c.in_ok-apply_change.ensures in
    let rows : c.apply_change.new.warehouse.rows ≡ rows_after trial_values w.rows (drawn_change count (draw c.loop.x) w.rows ∷ []) =
    done.rows ∙ ap (λ (x : Change). rows_after trial_values w.rows (x ∷ [])) change in
    let most : c.apply_change.new.steps ≤ c.loop.steps + work_of (density_by trial_values) (held_on w.rows) (drawn_change count (draw c.loop.x) w.rows) =
    subst (λ (x : Change). c.apply_change.new.steps ≤ c.loop.steps + work_of (density_by trial_values) (held_on w.rows) x) change done.work in (
      draws_go_on seed count before now w c.loop.x left drawn c.requires.count c.apply_change.new.warehouse (meanings g.W.Watcher.says_after c.apply_change.new.feed.slots.items) c.in_ok-drawn.drawn.last done.unsaved last rows
          (done.told ∙ ap (λ (x : Change). told_all (events_of trial_values w.rows (x ∷ [])) now) change),
      counts_go_on seed count c.args.steps.now c.loop.steps w c.loop.x left (subst Q more c.loop.invariant.1) c.apply_change.new.warehouse c.in_ok-drawn.drawn.last c.apply_change.new.steps most last
          (rows_next seed count before now w c.loop.x left drawn c.requires.count c.apply_change.new.warehouse rows),
    )

pub returns-clause-told : goal.returns-clause-told
returns-clause-told g c =
    let before : Slots = meanings g.W.Watcher.says_after c.args.feed.now.slots.items in
    let now : Slots = meanings g.W.Watcher.says_after c.loop.feed.slots.items in
    let P : ℕ → Type 0 = λ n. HasDrawn c.args.trial.seed c.args.trial.count before now c.loop.warehouse c.loop.x n in
    let none : c.args.trial.count - c.loop.counter ≡ 0 = omega arith in
    (draws_end c.args.trial.seed c.args.trial.count before now c.loop.warehouse c.loop.x (subst P none c.loop.invariant.0)).1

pub returns-in_err-apply_change-clause-work : goal.returns-in_err-apply_change-clause-work
returns-in_err-apply_change-clause-work g c =
    let seed = c.args.trial.seed in
    let count = c.args.trial.count in
    let w = c.loop.warehouse in
    let left = count - (c.loop.counter + 1) in
    let Q : ℕ → Type 0 = λ n. HasCounted seed count c.args.steps.now c.loop.steps w c.loop.x n in
    let more : count - c.loop.counter ≡ suc left = omega arith in
    let change : c.in_ok-drawn.drawn.change ≡ drawn_change count (draw c.loop.x) w.rows =
    c.in_ok-drawn.ensures.change ∙ ap (λ (r : Rows). drawn_change count (draw c.loop.x) r) c.records.ensures.vectors in
    let most : c.apply_change.new.steps ≤ c.loop.steps + work_of (density_by trial_values) (held_on w.rows) (drawn_change count (draw c.loop.x) w.rows) =
    subst (λ (x : Change). c.apply_change.new.steps ≤ c.loop.steps + work_of (density_by trial_values) (held_on w.rows) x) change c.apply_change.ensures.work in
    counts_within seed count c.args.steps.now c.loop.steps w c.loop.x left (subst Q more c.loop.invariant.1) c.apply_change.new.steps most
