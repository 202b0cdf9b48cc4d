use Rattle.std.proofs.Common.{◌≤◌, IsTrue}
use Rattle.std.specs.Prelude.{Ok}
use Rattle.site_disk.specs.declared.source.Failed.{Failed}
use Rattle.page_gate.specs.Gate.{items}
use Rattle.page_gate.specs.Same.{Puts}
use Rattle.page_gate.specs.Steps.{IsUnnamed, InPlace}
use Rattle.page_gate.proofs.opening.take_in.Given as goal

abbrev pub invariant-loop-k : goal.invariant-loop-k
invariant-loop-k g l = record {
  later : g.T.Site.faults l.fn.site ≤ g.T.Site.faults l.site;
  told : IsTrue g.T.Site.tells → Puts {E = Failed} (IsUnnamed (items l.start l.count (g.T.Site.state l.fn.site).content)) l.start (InPlace (items l.start l.k (g.T.Site.state l.fn.site).content)) (Ok tt) (g.T.Site.state l.fn.site) (g.T.Site.state l.site);
}
