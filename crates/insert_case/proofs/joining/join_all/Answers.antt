use Rattle.std.proofs.Common.{◌≡◌, ◌∙◌, ◌+◌, ◌≤◌, ◌++◌, Some, length, take, slice_get, refl, sym, ap, subst, arith}
use Rattle.std.proofs.lemmas.Option.{slice_get_read}
use Rattle.std.proofs.lemmas.Result.{on_ok_weaker}
use Rattle.update_seed.proofs.Lists.{whole}
use Rattle.insert_case.specs.Joining.{AreAllJoined}
use Rattle.insert_case.proofs.Joined.{joined_none, joinable, joined_more, labels_once, labelled}
use Rattle.insert_case.proofs.Told.{AreOf, of_none, of_more, told_in_order, told_now}
use Rattle.insert_case.proofs.joining.join_all.Goals as goal

pub loop-i-init : goal.loop-i-init
loop-i-init c = record {
  joined = joined_none c.args.labels.now c.args.groups.now;
  told = subst (AreOf (take 0 c.args.groups.now)) (sym c.new-events.ensures.items) (of_none c.args.groups.now);
}

pub join-requires : goal.join-requires
join-requires c =
    let g = c.index-groups-i.result in
    let at : slice_get c.args.groups.now c.loop-i.i ≡ Some g = slice_get_read c.args.groups.now _ c.loop-i.i g refl c.loop-i-test.true c.index-groups-i.is in
    joinable c.args.labels.now c.args.groups.now c.requires.cores c.requires.gathered c.requires.free c.loop-i.i g c.loop-i.labels at c.loop-i.invariant.joined

pub loop-i-preserved : goal.loop-i-preserved
loop-i-preserved c =
    let old = c.args.labels.now in
    let groups = c.args.groups.now in
    let g = c.index-groups-i.result in
    let at : slice_get groups c.loop-i.i ≡ Some g = slice_get_read groups _ c.loop-i.i g refl c.loop-i-test.true c.index-groups-i.is in
    let one = c.in_ok-join.ensures in
    record {
      joined = joined_more old groups c.requires.cores c.requires.gathered c.requires.free c.loop-i.i g c.loop-i.labels at c.loop-i.invariant.joined one.label c.join.new.labels one.united;
      told = subst (AreOf (take (c.loop-i.i + 1) groups)) (sym one.told)
          (of_more old groups c.requires.cores c.requires.gathered c.requires.free c.loop-i.i g at
          (labels_once old groups c.requires.cores c.requires.gathered c.loop-i.i g at)
          c.loop-i.events.items c.loop-i.invariant.told one.label one.united.is_label);
    }

pub put_in_order-requires : goal.put_in_order-requires
put_in_order-requires c = c.loop-i.invariant.told.untied

pub returns-clause-labelled : goal.returns-clause-labelled
returns-clause-labelled c =
    let end : length c.args.groups.now ≤ c.loop-i.i = omega arith in
    let all = subst (λ gs. AreAllJoined c.args.labels.now gs c.loop-i.labels) (whole c.args.groups.now c.loop-i.i end) c.loop-i.invariant.joined in
    on_ok_weaker c.append.result (λ _ cores gathered. labelled c.args.labels.now c.args.groups.now cores gathered c.loop-i.labels all) c.append.ensures

pub returns-clause-events : goal.returns-clause-events
returns-clause-events c =
    let groups = c.args.groups.now in
    let end : length groups ≤ c.loop-i.i = omega arith in
    let are = subst (λ gs. AreOf gs c.loop-i.events.items) (whole groups c.loop-i.i end) c.loop-i.invariant.told in
    let told = told_in_order groups c.loop-i.events.items c.put_in_order.new.events.items are c.put_in_order.ensures.permutation c.put_in_order.ensures.rising in
    on_ok_weaker c.append.result
    (λ e. told_now groups c.put_in_order.new.events.items c.args.out.now c.append.new.out told (e ∙ ap (λ es. c.args.out.now ++ es) c.deref.ensures.value))
    c.append.ensures
