use Rattle.std.proofs.Common.{◌∙◌, arith}
use Rattle.std.specs.Option.{option_map}
use Rattle.event_feed.specs.Meanings.{told}
use Rattle.event_feed.proofs.Telling.{changed_next}
use Rattle.event_feed.proofs.feed.WatcherSlots.tell_all.Goals as goal

pub loop-slot-preserved : goal.loop-slot-preserved
loop-slot-preserved g c =
    changed_next c.loop-slot.slot-items c.loop-slot.slot-index c.slot-item.result c.tell_slot.new.slot
    (option_map g.W.Watcher.says_after) (option_map (told c.as_slice-events.result.now))
    (omega (arith, c.loop-slot-test.true, c.loop-slot.auto.slot-items)) c.tell_slot.ensures
    ∙ c.loop-slot.invariant
