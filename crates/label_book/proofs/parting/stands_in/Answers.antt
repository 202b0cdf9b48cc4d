use Rattle.std.proofs.Common.{sym, subst}
use Rattle.label_book.specs.Labels.{IsMember}
use Rattle.label_book.proofs.Parted.{not_yet, not_both}
use Rattle.label_book.proofs.parting.stands_in.Goals as goal

pub loop-i-preserved : goal.loop-i-preserved
loop-i-preserved c =
    not_yet c.args.groups.now c.loop-i.i c.index-groups-i.result c.args.core c.loop-i-test.true c.index-groups-i.is c.loop-i.invariant
    (λ m. not_both c.is_among.result c.if-is_among.false (c.is_among.ensures.1 (subst (λ ys. IsMember ys c.args.core) (sym c.as_slice.ensures) m)))
