use Rattle.std.proofs.Common.{◌-◌}
use Rattle.event_feed.specs.Meanings.{meanings}
use Rattle.session_desk.proofs.Trials.{HasDrawn, HasCounted}
use Rattle.session_desk.proofs.trial.apply_drawn.Given as goal

abbrev pub invariant-loop : goal.invariant-loop
invariant-loop g l =
    HasDrawn l.fn.trial.seed l.fn.trial.count (meanings g.W.Watcher.says_after l.fn.feed.slots.items) (meanings g.W.Watcher.says_after l.feed.slots.items) l.warehouse l.x (l.fn.trial.count - l.counter)
    × HasCounted l.fn.trial.seed l.fn.trial.count l.fn.steps l.steps l.warehouse l.x (l.fn.trial.count - l.counter)
