use Rattle.std.proofs.Common.{◌≡◌, map}
use Rattle.std.specs.Option.{option_map}
use Rattle.event_feed.specs.Meanings.{told}
use Rattle.event_feed.proofs.Telling.{changed}
use Rattle.event_feed.proofs.feed.WatcherSlots.tell_all.Given as goal

abbrev pub invariant-loop-slot : goal.invariant-loop-slot
invariant-loop-slot g l =
    let says = option_map g.W.Watcher.says_after in
    let tell = option_map (told l.events) in
    changed says tell l.slot-index l.slot-items ≡ map tell (map says l.initial.slot-items)
