use Rattle.std.proofs.Common.{◌≡◌, ◌++◌, drop}
use Rattle.std.specs.List.{flat_map}
use Rattle.event_feed.specs.Texts.{event_text}
use Rattle.event_feed.proofs.recent.append_events.Given as goal

abbrev pub invariant-loop-event : goal.invariant-loop-event
invariant-loop-event l =
    l.text ++ flat_map event_text (drop l.event-index l.events) ≡ l.fn.text ++ flat_map event_text l.events
