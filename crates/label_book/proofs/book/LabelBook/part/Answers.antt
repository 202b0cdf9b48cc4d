use Rattle.std.proofs.Common.{sym, subst}
use Rattle.label_book.specs.Labels.{IsMember, EachOnce}
use Rattle.label_book.specs.Parting.{AreApart}
use Rattle.label_book.specs.inside.Steps.{IsCleared, AreFounded}
use Rattle.label_book.proofs.Parted.{parted, new_labels, rest_new}
use Rattle.label_book.proofs.Sorting.{strictly, moved_there, moved_back, with_rest, in_with_rest, rest_once}
use Rattle.label_book.proofs.book.LabelBook.part.Goals as goal

pub found_all-requires-clause-one : goal.found_all-requires-clause-one
found_all-requires-clause-one c = subst AreApart (sym c.as_slice-3.ensures) c.requires.one_group

pub returns-clause-ok : goal.returns-clause-ok
returns-clause-ok c =
    let cleared = subst (λ gs. IsCleared c.args.self.now c.args.label c.args.lost.now gs c.clear_out-rest.result c.clear_out-rest.new.self) c.as_slice-2.ensures
    (subst (λ ys. IsCleared c.args.self.now c.args.label ys c.as_slice-2.result.now c.clear_out-rest.result c.clear_out-rest.new.self) c.as_slice.ensures c.clear_out-rest.ensures) in
    let founded = subst (λ gs. AreFounded c.clear_out-rest.new.self gs c.found_all.new.labels c.found_all.new.self) c.as_slice-3.ensures c.in_ok-found_all.ensures in
    parted c.args.self.now c.clear_out-rest.new.self c.found_all.new.self c.args.label c.clear_out-rest.result c.args.lost.now c.args.groups.now c.found_all.new.labels c.requires cleared founded

pub returns-clause-labels : goal.returns-clause-labels
returns-clause-labels c =
    let cleared = subst (λ gs. IsCleared c.args.self.now c.args.label c.args.lost.now gs c.clear_out-rest.result c.clear_out-rest.new.self) c.as_slice-2.ensures
    (subst (λ ys. IsCleared c.args.self.now c.args.label ys c.as_slice-2.result.now c.clear_out-rest.result c.clear_out-rest.new.self) c.as_slice.ensures c.clear_out-rest.ensures) in
    let founded = subst (λ gs. AreFounded c.clear_out-rest.new.self gs c.found_all.new.labels c.found_all.new.self) c.as_slice-3.ensures c.in_ok-found_all.ensures in
    new_labels c.args.self.now c.clear_out-rest.new.self c.found_all.new.self c.args.label c.clear_out-rest.result c.args.lost.now c.args.groups.now c.found_all.new.labels c.rising.result c.requires cleared founded
    (λ l m. with_rest c.found_all.new.labels c.clear_out-rest.result l (subst (λ ys. IsMember ys l) c.in_ok-push_some.ensures (moved_back c.push_some.new.labels c.rising.result c.rising.ensures.permutation l m)))
    (λ l a. moved_there c.push_some.new.labels c.rising.result c.rising.ensures.permutation l (subst (λ ys. IsMember ys l) (sym c.in_ok-push_some.ensures) (in_with_rest c.found_all.new.labels c.clear_out-rest.result l a)))

pub returns-clause-rising : goal.returns-clause-rising
returns-clause-rising c =
    let cleared = subst (λ gs. IsCleared c.args.self.now c.args.label c.args.lost.now gs c.clear_out-rest.result c.clear_out-rest.new.self) c.as_slice-2.ensures
    (subst (λ ys. IsCleared c.args.self.now c.args.label ys c.as_slice-2.result.now c.clear_out-rest.result c.clear_out-rest.new.self) c.as_slice.ensures c.clear_out-rest.ensures) in
    let founded = subst (λ gs. AreFounded c.clear_out-rest.new.self gs c.found_all.new.labels c.found_all.new.self) c.as_slice-3.ensures c.in_ok-found_all.ensures in
    strictly c.push_some.new.labels c.rising.result c.rising.ensures.permutation c.rising.ensures.sorted
    (subst EachOnce (sym c.in_ok-push_some.ensures)
    (rest_once c.found_all.new.labels c.clear_out-rest.result founded.once
    (rest_new c.args.self.now c.clear_out-rest.new.self c.found_all.new.self c.args.label c.clear_out-rest.result c.args.lost.now c.args.groups.now c.found_all.new.labels cleared founded)))
