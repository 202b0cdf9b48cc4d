use Rattle.event_feed.proofs.Rings.{recent_told}
use Rattle.event_feed.proofs.recent.RecentWatcher.tell.Goals as goal

pub returns : goal.returns
returns g c more =
    let ring = c.self.inside.ring.items in
    let told = recent_told ring g.row.N c.self.inside.count c.self.inside.next c.args.event more c.self.invariant in
    rw (c.min-self-inside.ensures, ← c.self.view_is) told
