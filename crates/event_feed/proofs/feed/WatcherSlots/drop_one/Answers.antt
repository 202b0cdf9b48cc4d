use Rattle.event_feed.proofs.Slotted.{is_full_past, meanings_without}
use Rattle.event_feed.proofs.feed.WatcherSlots.drop_one.Goals as goal

pub returns-in-Some-clause-slots : goal.returns-in-Some-clause-slots
returns-in-Some-clause-slots g c =
    meanings_without g.W.Watcher.says_after c.args.self.now.slots.items c.args.slot _ c.if-slot-eq0.false c.take.ensures.after

pub returns-in-None-clause-full : goal.returns-in-None-clause-full
returns-in-None-clause-full g c =
    is_full_past _ c.args.self.now.slots.items c.args.slot c.if-slot-eq0.false c.in-None.ensures.item.3
