use Rattle.std.proofs.Common.{◌≡◌, ◌≤◌, ◌+◌, ◌++◌, List, ℕ, false, IsTrue}
use Rattle.site_disk.specs.State.{Joins}
use Rattle.page_gate.specs.Promises.{Holds}
use Rattle.warehouse_core.specs.States.{IsClustered}
use Rattle.session_desk.specs.Session.{Request, requests_of}
use Rattle.session_desk.specs.Asking.{asks, rest_of}
use Rattle.event_feed.specs.Meanings.{meanings}
use Rattle.session_desk.specs.Talks.{desk_at, works_on, IsServing, IsRead, IsGoing}
use Rattle.session_desk.proofs.converse.converse.Given as goal

-- what was read so far is answered and said
abbrev pub invariant-turns : goal.invariant-turns
invariant-turns g l = record {
  reads : IsTrue g.S.Source.tells → (asked : List Request) × IsRead (g.S.Source.left l.fn.source) asked l.reader (g.S.Source.left l.source);
  going : IsTrue g.S.Source.tells → IsClustered l.fn.session.warehouse
      → IsGoing g.T.Site.tells (desk_at l.fn.session.warehouse (meanings g.W.Watcher.says_after l.fn.session.feed.slots.items)) (g.S.Source.left l.fn.source) (g.T.Site.state l.fn.site) l.refused
      (desk_at l.session.warehouse (meanings g.W.Watcher.says_after l.session.feed.slots.items)) l.reader (g.S.Source.left l.source) (g.T.Site.state l.site);
  paid : IsTrue g.S.Source.tells → IsClustered l.fn.session.warehouse
      → l.steps + works_on (desk_at l.session.warehouse (meanings g.W.Watcher.says_after l.session.feed.slots.items)) (asks l.reader.room (rest_of l.reader (g.S.Source.left l.source)))
      ≤ l.fn.steps + works_on (desk_at l.fn.session.warehouse (meanings g.W.Watcher.says_after l.fn.session.feed.slots.items)) (requests_of (g.S.Source.left l.fn.source));
  serving : IsServing l.session.warehouse;
  clustered : IsClustered l.fn.session.warehouse → IsClustered l.session.warehouse;
  ready : IsTrue g.T.Site.tells → Holds l.session.warehouse.pages (g.T.Site.state l.site);
  joins : IsTrue g.T.Site.tells → Joins (g.T.Site.state l.fn.site) (g.T.Site.state l.site);
  begins : IsTrue g.T.Site.tells → (more : List ℕ) × ((g.T.Site.state l.site).said ≡ (g.T.Site.state l.fn.site).said ++ more);
  whole : l.reader.failed ≡ false;
  room : l.reader.room ≤ 67108864;
  source_later : g.S.Source.faults l.fn.source ≤ g.S.Source.faults l.source;
  site_later : g.T.Site.faults l.fn.site ≤ g.T.Site.faults l.site;
}

abbrev pub decreases-turns : goal.decreases-turns
decreases-turns g l = l.reader.room
