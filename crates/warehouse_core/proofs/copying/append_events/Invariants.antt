use Rattle.std.proofs.Common.{◌≡◌, ◌++◌, take}
use Rattle.warehouse_core.proofs.copying.append_events.Given as goal

abbrev pub invariant-loop-event : goal.invariant-loop-event
invariant-loop-event l = l.out ≡ l.fn.out ++ take l.event-index l.events
