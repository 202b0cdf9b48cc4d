use Rattle.std.proofs.Common.{refl}
use Rattle.event_feed.proofs.Tallied.{tally_from_none, by_kind}
use Rattle.event_feed.proofs.tally.Tally.new.Goals as goal

pub returns : goal.returns
returns c = tally_from_none _ (by_kind _ refl refl refl refl refl refl refl)
