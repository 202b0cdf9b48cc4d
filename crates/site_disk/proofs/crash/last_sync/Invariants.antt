use Rattle.std.proofs.Common.{take}
use Rattle.site_disk.specs.Picks.{IsSettled}
use Rattle.site_disk.proofs.crash.last_sync.Given as goal

abbrev pub invariant-loop-i : goal.invariant-loop-i
invariant-loop-i l = IsSettled l.settled (take l.i l.calls)
