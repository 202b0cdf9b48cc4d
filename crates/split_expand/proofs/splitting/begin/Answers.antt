use Rattle.std.proofs.Common.{refl}
use Rattle.split_expand.proofs.splitting.begin.Goals as goal

pub returns : goal.returns
returns c = record {
  members_are = c.new-members.ensures;
  same = refl;
  none = c.in_ok-order.ensures.empty;
  asked = refl;
  unfound = c.len-unfound.ensures.len;
}
