use Rattle.std.proofs.Common.{◌≡◌, take, reverse}
use Rattle.site_disk.specs.Replay.{replay}
use Rattle.site_disk.proofs.crash.played.Given as goal

abbrev pub invariant-loop-i : goal.invariant-loop-i
invariant-loop-i l = l.file.items ≡ (replay l.start (reverse (take l.i l.calls))).content
