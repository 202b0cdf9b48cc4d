use Rattle.std.proofs.Common.{◌≤◌, ◌+◌, ◌*◌, IsTrue, length, take}
use Rattle.std.specs.Prelude.{Ok}
use Rattle.site_disk.specs.declared.source.Failed.{Failed}
use Rattle.page_gate.specs.Same.{Puts}
use Rattle.page_gate.specs.Steps.{HasItems, IsBefore}
use Rattle.page_gate.specs.Writes.{pairs}
use Rattle.page_gate.proofs.steps.write_items.Given as goal

abbrev pub invariant-loop-k : goal.invariant-loop-k
invariant-loop-k g l = record {
  later : g.T.Site.faults l.fn.site ≤ g.T.Site.faults l.site;
  told : IsTrue g.T.Site.tells → Puts {E = Failed} (IsBefore l.start) (l.start + 16392 * length l.writes) (HasItems l.start l.k (pairs (take l.k l.writes))) (Ok tt) (g.T.Site.state l.fn.site) (g.T.Site.state l.site);
}
