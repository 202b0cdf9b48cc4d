use Rattle.std.proofs.Common.{◌≡◌}
use Rattle.event_feed.specs.Meanings.{meanings, filled}
use Rattle.event_feed.proofs.feed.WatcherSlots.new.Given as goal

abbrev pub invariant-loop-watcher : goal.invariant-loop-watcher
invariant-loop-watcher g l =
    meanings g.W.Watcher.says_after l.slots.items
    ≡ filled g.W.Watcher.says_after l.yielded
