use Rattle.std.proofs.Common.{◌≡◌, ◌≤◌, ◌<◌, ◌+◌, ℕ, length, get_or, IsTrue}
use Rattle.site_disk.proofs.parts.read_whole.Given as goal

abbrev pub invariant-parts : goal.invariant-parts
invariant-parts g l = record {
  within : l.filled ≤ length l.into;
  stays : IsTrue g.D.GivesParts.tells → g.D.GivesParts.held l.device ≡ g.D.GivesParts.held l.fn.device;
  told : IsTrue g.D.GivesParts.tells → (i : ℕ) → i < l.filled → get_or l.into i 0 ≡ get_or (g.D.GivesParts.held l.fn.device) (l.at + i) 0;
}
