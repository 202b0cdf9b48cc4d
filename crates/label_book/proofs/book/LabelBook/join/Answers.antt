use Rattle.std.proofs.Common.{[], sym, subst}
use Rattle.label_book.specs.Labels.{HasLeast, IsMember, EachOnce, AreFree, AreLabels, IsJoined, IsLeastOfBoth}
use Rattle.label_book.proofs.Views.{has_least}
use Rattle.label_book.proofs.Joined.{Grown, Chosen}
use Rattle.label_book.proofs.Joining.{join_into, join_core, join_more, join_all, add_core, add_more, add_all}
use Rattle.label_book.proofs.book.LabelBook.join.Goals as goal

pub merge-requires-clause-into : goal.merge-requires-clause-into
merge-requires-clause-into c =
    join_into c.args.self.now c.loop-i.self c.as_slice-items.result.now c.largest-target.result c.loop-i.label (subst (AreLabels c.args.self.now) (sym c.as_slice-items.ensures) c.requires.labels) c.largest-target.ensures c.loop-i.i c.loop-i.invariant

pub merge-requires-clause-core : goal.merge-requires-clause-core
merge-requires-clause-core c =
    join_core c.args.self.now c.loop-i.self c.as_slice-items.result.now c.largest-target.result c.loop-i.label (subst (AreLabels c.args.self.now) (sym c.as_slice-items.ensures) c.requires.labels) c.largest-target.ensures c.loop-i.i c.loop-i-test.true
    c.loop-i.invariant

pub loop-i-preserved : goal.loop-i-preserved
loop-i-preserved c =
    join_more c.args.self.now c.loop-i.self c.as_slice-items.result.now c.largest-target.result c.loop-i.label (subst (AreLabels c.args.self.now) (sym c.as_slice-items.ensures) c.requires.labels) c.largest-target.ensures c.loop-i.i
    c.in_ok-label.label c.merge.new.self c.loop-i-test.true c.loop-i.invariant c.in_ok-label.ensures.ok

pub loop-j-init : goal.loop-j-init
loop-j-init c =
    subst (λ ys. Grown c.args.self.now (Chosen ys c.largest-target.result) (IsMember []) c.loop-i.label c.loop-i.self) c.as_slice-items.ensures
    (join_all c.args.self.now c.loop-i.self c.as_slice-items.result.now c.largest-target.result c.loop-i.label (subst (AreLabels c.args.self.now) (sym c.as_slice-items.ensures) c.requires.labels) c.largest-target.ensures c.loop-i.i
    c.loop-i-test.false c.loop-i.invariant)

pub add-requires-clause-core : goal.add-requires-clause-core
add-requires-clause-core c =
    add_core c.args.self.now c.loop-j.self c.args.labels.now c.largest-target.result c.loop-j.label c.requires.labels (subst (λ ys. IsMember ys c.largest-target.result) c.as_slice-items.ensures c.largest-target.ensures) c.as_slice-added.result.now
    (subst EachOnce (sym c.as_slice-added.ensures) c.requires.cores_once) (subst (AreFree c.args.self.now) (sym c.as_slice-added.ensures) c.requires.free) c.loop-j.j c.loop-j-test.true c.loop-j.invariant

pub loop-j-preserved : goal.loop-j-preserved
loop-j-preserved c =
    add_more c.args.self.now c.loop-j.self c.args.labels.now c.largest-target.result c.loop-j.label c.requires.labels (subst (λ ys. IsMember ys c.largest-target.result) c.as_slice-items.ensures c.largest-target.ensures) c.as_slice-added.result.now
    (subst EachOnce (sym c.as_slice-added.ensures) c.requires.cores_once) (subst (AreFree c.args.self.now) (sym c.as_slice-added.ensures) c.requires.free) c.loop-j.j c.in_ok-label-2.label c.add.new.self
    (subst HasLeast c.self.view_is (has_least c.self.inside.places c.self.inside.clusters c.self.invariant)) c.loop-j-test.true c.loop-j.invariant c.in_ok-label-2.ensures.ok c.in_ok-label-2.ensures.label

pub returns-clause-label : goal.returns-clause-label
returns-clause-label c =
    subst (λ ys. IsLeastOfBoth c.loop-j.label c.args.labels.now ys) c.as_slice-added.ensures
    (add_all c.args.self.now c.loop-j.self c.args.labels.now c.largest-target.result c.loop-j.label c.requires.labels (subst (λ ys. IsMember ys c.largest-target.result) c.as_slice-items.ensures c.largest-target.ensures) c.as_slice-added.result.now
    (subst EachOnce (sym c.as_slice-added.ensures) c.requires.cores_once) (subst (AreFree c.args.self.now) (sym c.as_slice-added.ensures) c.requires.free) c.loop-j.j c.loop-j-test.false c.loop-j.invariant).1

pub returns-clause-ok : goal.returns-clause-ok
returns-clause-ok c =
    subst (λ ys. IsJoined c.args.self.now c.args.labels.now ys c.loop-j.label c.loop-j.self) c.as_slice-added.ensures
    (add_all c.args.self.now c.loop-j.self c.args.labels.now c.largest-target.result c.loop-j.label c.requires.labels (subst (λ ys. IsMember ys c.largest-target.result) c.as_slice-items.ensures c.largest-target.ensures) c.as_slice-added.result.now
    (subst EachOnce (sym c.as_slice-added.ensures) c.requires.cores_once) (subst (AreFree c.args.self.now) (sym c.as_slice-added.ensures) c.requires.free) c.loop-j.j c.loop-j-test.false c.loop-j.invariant).0
