use Rattle.std.proofs.Common.{◌≡◌, drop}
use Rattle.event_feed.specs.Meanings.{told}
use Rattle.event_feed.proofs.feed.tell_each.Given as goal

abbrev pub invariant-loop-event : goal.invariant-loop-event
invariant-loop-event g l =
    told (drop l.event-index l.events) (g.W.Watcher.says_after l.watcher) ≡ told l.events (g.W.Watcher.says_after l.fn.watcher)
