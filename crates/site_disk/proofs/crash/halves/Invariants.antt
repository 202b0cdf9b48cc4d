use Rattle.std.proofs.Common.{◌≡◌, take, reverse}
use Rattle.site_disk.specs.Picks.{halved}
use Rattle.site_disk.proofs.crash.halves.Given as goal

abbrev pub invariant-loop-i : goal.invariant-loop-i
invariant-loop-i l = l.file.items ≡ halved l.start (reverse (take l.i l.calls))
