use Rattle.std.proofs.Common.{◌≤◌, ◌+◌, ◌*◌, IsTrue}
use Rattle.std.specs.Prelude.{Ok}
use Rattle.site_disk.specs.declared.source.Failed.{Failed}
use Rattle.page_gate.specs.Same.{Puts}
use Rattle.page_gate.specs.Births.{IsGate, Begins}
use Rattle.page_gate.proofs.new_store.clear_rest.Given as goal

abbrev pub invariant-loop-k : goal.invariant-loop-k
invariant-loop-k g l = record {
  later : g.T.Site.faults l.fn.site ≤ g.T.Site.faults l.site;
  told : IsTrue g.T.Site.tells → Puts {E = Failed} IsGate 16384 (Begins (8 + 712 * l.k)) (Ok tt) (g.T.Site.state l.fn.site) (g.T.Site.state l.site);
}
