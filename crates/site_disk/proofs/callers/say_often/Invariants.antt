use Rattle.std.proofs.Common.{◌≡◌, ◌≤◌, ◌++◌, IsTrue}
use Rattle.site_disk.specs.State.{Safe}
use Rattle.site_disk.specs.Often.{IsCalm, lines}
use Rattle.site_disk.proofs.callers.say_often.Given as goal

abbrev pub invariant-loop-i : goal.invariant-loop-i
invariant-loop-i g l = record {
  later : g.T.Site.faults l.fn.site ≤ g.T.Site.faults l.site;
  told : IsTrue g.T.Site.tells → Safe (g.T.Site.state l.fn.site) (g.T.Site.state l.site) (IsCalm (g.T.Site.state l.fn.site));
  said : IsTrue g.T.Site.tells → (g.T.Site.state l.site).said ≡ (g.T.Site.state l.fn.site).said ++ lines l._i l.line;
}
