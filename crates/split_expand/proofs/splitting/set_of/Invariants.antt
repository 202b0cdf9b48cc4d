use Rattle.split_expand.proofs.Sets.{IsSetUpTo}
use Rattle.split_expand.proofs.splitting.set_of.Given as goal

abbrev pub invariant-loop-i : goal.invariant-loop-i
invariant-loop-i l = IsSetUpTo l.numbers l.i l.set.keys
