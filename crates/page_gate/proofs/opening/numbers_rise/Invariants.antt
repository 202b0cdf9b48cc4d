use Rattle.std.proofs.Common.{◌≡◌, ◌≤◌, ◌+◌, ◌-◌, ◌*◌, ◌/◌, IsTrue}
use Rattle.site_disk.specs.Calls.{Stays}
use Rattle.page_gate.specs.Gate.{items, rises}
use Rattle.page_gate.proofs.opening.numbers_rise.Given as goal

abbrev pub invariant-loop-k : goal.invariant-loop-k
invariant-loop-k g l = record {
  later : g.T.Site.faults l.fn.site ≤ g.T.Site.faults l.site;
  stays : IsTrue g.T.Site.tells → Stays (g.T.Site.state l.fn.site) (g.T.Site.state l.site);
  answer : IsTrue g.T.Site.tells → rises 0 (l.start / 16384) (items l.start l.count (g.T.Site.state l.fn.site).content) ≡ rises l.low (l.start / 16384) (items (l.start + 16392 * l.k) (l.count - l.k) (g.T.Site.state l.fn.site).content);
}
