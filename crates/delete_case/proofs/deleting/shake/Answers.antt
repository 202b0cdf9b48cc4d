use Rattle.std.proofs.Common.{◌+◌, ◌≤◌, List, ℕ, sum_by, sym, subst, inl, arith}
use Rattle.std.proofs.lemmas.Result.{on_ok_weaker}
use Rattle.label_book.specs.Labels.{IsMember, EachOnce}
use Rattle.update_seed.specs.declared.former.Former.{Former}
use Rattle.update_seed.specs.Books.{core_in, near_in, all_near}
use Rattle.update_seed.specs.Price.{cost_at}
use Rattle.update_seed.specs.Outgoing.{AreHung}
use Rattle.delete_case.specs.Parting.{ArePartable, AreAllParted, AreAllTold, AreAllPaid}
use Rattle.delete_case.proofs.Shaking.{hung_cores, hung_partable, shaken, spent, loose_there}
use Rattle.delete_case.proofs.deleting.shake.Goals as goal

pub part_all-requires-clause-there : goal.part_all-requires-clause-there
part_all-requires-clause-there g c =
    let scene = c.args.scene.now in
    hung_cores (all_near g.M.Metric.dist scene.eps scene.records.now) c.args.lost.now c.args.counts.now c.seeds_out.new.counts c.in_ok-left.ensures.anchors scene.records.now c.requires.there.cores

pub part_all-requires-clause-former : goal.part_all-requires-clause-former
part_all-requires-clause-former g c =
    let scene = c.args.scene.now in
    let list = c.in_ok-left.left.former in
    let hung = c.seeds_out.new.counts in
    subst (λ (xs : List Former). ArePartable hung c.args.labels.now xs) (sym c.as_slice.ensures)
    (hung_partable (all_near g.M.Metric.dist scene.eps scene.records.now) c.args.lost.now c.args.counts.now hung c.in_ok-left.ensures.anchors c.args.labels.now list (c.requires.partable list c.in_ok-left.ensures.former))

pub rehang-requires-clause-once : goal.rehang-requires-clause-once
rehang-requires-clause-once g c = subst EachOnce (sym c.as_slice-2.ensures) c.in_ok-left.ensures.loose.once

pub rehang-requires-clause-there : goal.rehang-requires-clause-there
rehang-requires-clause-there g c q m =
    let scene = c.args.scene.now in
    loose_there (near_in g.M.Metric.dist scene.eps scene.records.now) scene.records.now c.args.counts.now c.args.labels.now scene.number scene.around.now c.args.lost.now c.in_ok-left.left.loose c.requires.there c.in_ok-left.ensures.loose q
    (subst (λ (xs : List ℕ). IsMember xs q) c.as_slice-2.ensures m)

pub returns-in_err-left-clause-paid : goal.returns-in_err-left-clause-paid
returns-in_err-left-clause-paid g c = inl c.seeds_out.ensures.at_most

pub returns-in_err-part_all-clause-paid : goal.returns-in_err-part_all-clause-paid
returns-in_err-part_all-clause-paid g c =
    let scene = c.args.scene.now in
    let records = scene.records.now in
    let near = near_in g.M.Metric.dist scene.eps records in
    let cost = cost_at (g.I.RangeIndex.cost scene.index.now) records scene.eps in
    let hung = c.seeds_out.new.counts in
    let list = c.in_ok-left.left.former in
    let paid = subst (λ (xs : List Former). AreAllPaid (core_in hung) near cost c.args.labels.now xs c.seeds_out.new.steps c.part_all.new.steps) c.as_slice.ensures c.part_all.ensures.paid in
    spent (all_near g.M.Metric.dist scene.eps records) c.args.lost.now c.args.counts.now hung c.in_ok-left.ensures.anchors near scene.number scene.around.now c.args.labels.now list c.in_ok-left.left.loose
    c.in_ok-left.ensures.former c.in_ok-left.ensures.loose cost c.args.steps.now c.seeds_out.new.steps c.part_all.new.steps c.part_all.new.steps c.in_ok-left.ensures.counted paid (omega arith)

pub returns-clause-done : goal.returns-clause-done
returns-clause-done g c =
    let scene = c.args.scene.now in
    let records = scene.records.now in
    let near = near_in g.M.Metric.dist scene.eps records in
    let all = all_near g.M.Metric.dist scene.eps records in
    let hung = c.seeds_out.new.counts in
    let list = c.in_ok-left.left.former in
    let labels = c.args.labels.now in
    let labels' = c.part_all.new.labels in
    let parted = subst (λ (xs : List Former). AreAllParted (core_in hung) near labels xs labels') c.as_slice.ensures c.in_ok-part_all.ensures.parted in
    let told = subst (λ (xs : List Former). AreAllTold labels xs labels' c.args.out.now c.part_all.new.out) c.as_slice.ensures c.in_ok-part_all.ensures.told in
    on_ok_weaker c.rehang.result
    (λ e. shaken all c.args.lost.now c.args.counts.now hung c.in_ok-left.ensures.anchors near scene.number scene.around.now labels list c.in_ok-left.left.loose
    c.in_ok-left.ensures.former c.in_ok-left.ensures.loose c.rehang.new.counts labels' c.args.out.now c.part_all.new.out parted told
    (subst (λ (xs : List ℕ). AreHung all xs hung c.rehang.new.counts) c.as_slice-2.ensures e))
    c.rehang.ensures.hung

pub returns-clause-paid : goal.returns-clause-paid
returns-clause-paid g c =
    let scene = c.args.scene.now in
    let records = scene.records.now in
    let near = near_in g.M.Metric.dist scene.eps records in
    let cost = cost_at (g.I.RangeIndex.cost scene.index.now) records scene.eps in
    let hung = c.seeds_out.new.counts in
    let list = c.in_ok-left.left.former in
    let paid = subst (λ (xs : List Former). AreAllPaid (core_in hung) near cost c.args.labels.now xs c.seeds_out.new.steps c.part_all.new.steps) c.as_slice.ensures c.in_ok-part_all.ensures.paid in
    let last = subst (λ (xs : List ℕ). c.rehang.new.steps ≤ c.part_all.new.steps + sum_by cost xs) c.as_slice-2.ensures c.rehang.ensures.at_most in
    spent (all_near g.M.Metric.dist scene.eps records) c.args.lost.now c.args.counts.now hung c.in_ok-left.ensures.anchors near scene.number scene.around.now c.args.labels.now list c.in_ok-left.left.loose
    c.in_ok-left.ensures.former c.in_ok-left.ensures.loose cost c.args.steps.now c.seeds_out.new.steps c.part_all.new.steps c.rehang.new.steps c.in_ok-left.ensures.counted paid last
