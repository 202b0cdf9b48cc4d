use Rattle.std.proofs.Common.{◌≡◌, ◌≤◌, ◌+◌, length, reverse, vec_len}
use Rattle.page_gate.specs.Writes.{pairs, written, new_count}
use Rattle.page_gate.proofs.Written.{Midway}
use Rattle.page_gate.proofs.pages.Pages.take_all.Given as goal

abbrev pub invariant-loop-write : goal.invariant-loop-write
invariant-loop-write l = record {
  same : written l.self.list (pairs (reverse l.items.items)) ≡ written l.fn.self.list (pairs l.fn.writes);
  midway : Midway (new_count (pairs l.fn.writes)) l.self.list (pairs (reverse l.items.items));
  room : new_count (pairs l.fn.writes) ≤ length l.self.list + 1 + l.self.spare;
}

abbrev pub decreases-loop-write : goal.decreases-loop-write
decreases-loop-write l = vec_len l.items
