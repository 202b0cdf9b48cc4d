use Rattle.std.proofs.Common.{◌≡◌, ◌∙◌, ◌++◌, List, [], ◌∷◌, ap}
use Rattle.vec_record.specs.declared.change.Change.{Change}
use Rattle.vec_record.specs.declared.event.Event.{Event}
use Rattle.page_layout.specs.Heads.{Values}
use Rattle.event_feed.specs.Meanings.{meanings, told_all}
use Rattle.warehouse_core.specs.Batches.{events_of}
use Rattle.session_desk.specs.Trial.{trial_values}
use Rattle.session_desk.proofs.trial.apply_change.Goals as goal

pub returns-clause-told : goal.returns-clause-told
returns-clause-told g c =
    let w = c.args.warehouse.now in
    let list : c.push.new.self ≡ c.args.change ∷ [] = c.in_ok-push.ensures.ok ∙ ap (λ (l : List Change). l ++ c.args.change ∷ []) c.new-changes.ensures in
    let events : c.apply_unsaved.new.out ≡ events_of trial_values w.rows (c.args.change ∷ []) =
    c.in_ok-apply_unsaved.ensures.events c.requires.unsaved.clustered
    ∙ (ap (λ (l : List Event). l ++ events_of w.values w.rows c.push.new.self) c.new-events.ensures
    ∙ (ap (λ (v : Values). events_of v w.rows c.push.new.self) c.requires.unsaved.values ∙ ap (events_of trial_values w.rows) list)) in
    c.tell_all.ensures ∙ ap (λ (l : List Event). told_all l (meanings g.W.Watcher.says_after c.args.feed.now.slots.items)) events
