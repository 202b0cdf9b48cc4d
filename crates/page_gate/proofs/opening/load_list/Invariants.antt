use Rattle.std.proofs.Common.{◌≡◌, ◌≤◌, ◌+◌, length, IsTrue}
use Rattle.site_disk.specs.Calls.{Stays}
use Rattle.page_gate.specs.Looks.{Places}
use Rattle.page_gate.proofs.opening.load_list.Given as goal

abbrev pub invariant-loop-number : goal.invariant-loop-number
invariant-loop-number g l = record {
  later : g.T.Site.faults l.fn.site ≤ g.T.Site.faults l.site;
  many : length l.pages.list + 1 ≡ l.number;
  stays : IsTrue g.T.Site.tells → Stays (g.T.Site.state l.fn.site) (g.T.Site.state l.site);
  places : IsTrue g.T.Site.tells → Places (g.T.Site.state l.fn.site).content l.number l.pages.list;
}
