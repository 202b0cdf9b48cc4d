use Rattle.std.proofs.Common.{sym, subst}
use Rattle.label_book.specs.Labels.{AreMembers}
use Rattle.update_seed.proofs.Classes.{class_parted}
use Rattle.update_seed.proofs.gathering.class_of.Goals as goal

pub returns-in-Some-members : goal.returns-in-Some-members
returns-in-Some-members c =
    class_parted c.parted.result c.args.labels.now c.args.ties.now c.args.core c.in-Some.label _ (sym c.in-Some.ensures.value)
    (subst (AreMembers c.args.ties.now c.in-Some.label) (sym c.as_slice.ensures) c.in-Some-members.ensures.exact) c.parted.ensures.new c.parted.ensures.old
