use Rattle.std.proofs.Common.{◌≤◌, ◌*◌, IsTrue, take}
use Rattle.std.specs.Prelude.{Ok}
use Rattle.site_disk.specs.declared.source.Failed.{Failed}
use Rattle.page_gate.specs.Same.{Puts}
use Rattle.page_gate.specs.Steps.{IsUnnamed, InPlace}
use Rattle.page_gate.specs.Writes.{pairs, new_count}
use Rattle.page_gate.proofs.steps.write_pages.Given as goal

abbrev pub invariant-loop-k : goal.invariant-loop-k
invariant-loop-k g l = record {
  later : g.T.Site.faults l.fn.site ≤ g.T.Site.faults l.site;
  told : IsTrue g.T.Site.tells → Puts {E = Failed} (IsUnnamed (pairs l.writes)) (16384 * new_count (pairs l.writes)) (InPlace (pairs (take l.k l.writes))) (Ok tt) (g.T.Site.state l.fn.site) (g.T.Site.state l.site);
}
