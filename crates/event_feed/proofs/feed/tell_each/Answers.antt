use Rattle.std.proofs.Common.{◌∙◌}
use Rattle.event_feed.proofs.Telling.{told_next, told_end}
use Rattle.event_feed.proofs.feed.tell_each.Goals as goal

pub loop-event-preserved : goal.loop-event-preserved
loop-event-preserved g c =
    let before = g.W.Watcher.says_after c.loop-event.watcher in
    let after = g.W.Watcher.says_after c.tell_one.new.watcher in
    told_next before after c.args.events.now c.loop-event.event-index _ c.loop-event-test.true c.tell_one.ensures
    ∙ c.loop-event.invariant

pub returns : goal.returns
returns g c =
    let before = g.W.Watcher.says_after c.loop-event.watcher in
    told_end before _ c.args.events.now _ c.loop-event-test.false c.loop-event.invariant
