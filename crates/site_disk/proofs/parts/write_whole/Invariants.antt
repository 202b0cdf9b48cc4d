use Rattle.std.proofs.Common.{◌≡◌, ◌≤◌, length, take, IsTrue}
use Rattle.site_disk.specs.Disk.{put}
use Rattle.site_disk.proofs.parts.write_whole.Given as goal

abbrev pub invariant-parts : goal.invariant-parts
invariant-parts g l = record {
  within : l.taken ≤ length l.bytes;
  told : IsTrue g.D.TakesParts.tells → g.D.TakesParts.held l.device ≡ put l.at (take l.taken l.bytes) (g.D.TakesParts.held l.fn.device);
}
