use Rattle.std.proofs.Common.{subst}
use Rattle.label_book.specs.Labels.{IsMember}
use Rattle.label_book.specs.inside.Steps.{IsWithout}
use Rattle.label_book.proofs.Parted.{group_members, group_left}
use Rattle.label_book.proofs.book.LabelBook.leave_groups.Goals as goal

pub leave_but-requires-clause-members : goal.leave_but-requires-clause-members
leave_but-requires-clause-members c q m =
    group_members c.args.self.now c.loop-i.self c.args.groups.now c.loop-i.i c.index-groups-i.result c.args.label c.requires.one c.requires.members c.loop-i-test.true c.index-groups-i.is c.loop-i.invariant q
    (subst (λ ys. IsMember ys q) c.as_slice.ensures m)

pub loop-i-preserved : goal.loop-i-preserved
loop-i-preserved c =
    group_left c.args.self.now c.loop-i.self c.leave_but.new.self c.args.groups.now c.loop-i.i c.index-groups-i.result c.args.label c.loop-i-test.true c.index-groups-i.is c.loop-i.invariant
    (subst (λ ys. IsWithout c.loop-i.self ys c.args.label c.leave_but.new.self) c.as_slice.ensures c.leave_but.ensures)
