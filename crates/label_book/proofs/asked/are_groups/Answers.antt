use Rattle.std.proofs.Common.{sym, subst}
use Rattle.std.proofs.lemmas.List.{take_all}
use Rattle.label_book.specs.Labels.{IsMember, EachOnce}
use Rattle.label_book.proofs.Checks.{AreGroups, groups_next_one}
use Rattle.label_book.proofs.asked.are_groups.Goals as goal

pub loop-i-preserved : goal.loop-i-preserved
loop-i-preserved c =
    let is = c.as_slice-group.ensures in
    let fresh = c.is_fresh.ensures in
    groups_next_one c.args.book.now c.args.label c.args.lost.now c.args.groups.now c.loop-i.i c.index-groups-i.result c.loop-i-test.true c.index-groups-i.is c.loop-i.invariant
    (subst EachOnce is (c.is_once.ensures c.if-not-is_once.false))
    (λ q m. c.have_label.ensures c.if-not-have_label.false q (subst (λ ys. IsMember ys q) (sym is) m))
    (λ q m. fresh.lost c.if-not-is_fresh.false q (subst (λ ys. IsMember ys q) (sym is) m))
    (λ q m. fresh.earlier c.if-not-is_fresh.false q (subst (λ ys. IsMember ys q) (sym is) m))

pub returns-clause-lost : goal.returns-clause-lost
returns-clause-lost c _ = (subst (AreGroups c.args.book.now c.args.label c.args.lost.now) (take_all c.loop-i.i c.args.groups.now c.loop-i-test.false) c.loop-i.invariant).apart

pub returns-clause-one : goal.returns-clause-one
returns-clause-one c _ = (subst (AreGroups c.args.book.now c.args.label c.args.lost.now) (take_all c.loop-i.i c.args.groups.now c.loop-i-test.false) c.loop-i.invariant).one_group
