use Rattle.std.proofs.Common.{◌<◌, ◌≤◌, ◌+◌, inl, sym, ap, subst, ◌∙◌}
use Rattle.std.specs.FinMap as map
use Rattle.std.proofs.lemmas.Result.{on_ok_weaker, on_err_weaker}
use Rattle.vec_record.specs.Held.{Rows}
use Rattle.plain_dbscan.specs.Marks.{density}
use Rattle.insert_case.proofs.Around.{empty_list, some_list}
use Rattle.insert_case.proofs.Whole.{add_up, once, few, there, absent, same_minpts, told_groups, told_noise}
use Rattle.insert_case.proofs.Finished.{held_now, new_now, joinable, end_fits, end_stands, end_told, end_price, none_fits, none_stands, none_told, first_price, err_index, err_first, err_left}
use Rattle.insert_case.proofs.inserting.insert_change.Goals as goal

pub place-requires-clause-width : goal.place-requires-clause-width
place-requires-clause-width g c =
    c.requires.pair.width ∙ sym c.requires.fits.held.same_width

pub place-requires-clause-absent : goal.place-requires-clause-absent
place-requires-clause-absent g c =
    ap (λ (m : Rows). map.get m c.args.number) c.requires.fits.held.same_pairs ∙ c.requires.pair.absent

pub place-requires-clause-room : goal.place-requires-clause-room
place-requires-clause-room g c =
    subst (λ (m : Rows). map.len m < 200000) (sym c.requires.fits.held.same_pairs) c.requires.pair.room

pub count_in-requires-clause-absent : goal.count_in-requires-clause-absent
count_in-requires-clause-absent g c =
    let found = c.in_ok-around.ensures.found in
    let grown = g.met.I.RangeIndex.inserts c.args.index.now c.place.new.index c.args.number c.args.vector c.in_ok-around.ensures.inserted in
    let added = add_up c.requires.fits c.requires.pair grown (c.as_slice.ensures ∙ found.found) found.vectors
    (λ a b. g.met.M.Metric.identity (g.I.RangeIndex.width c.place.new.index) a b found.lawful)
    (λ a b. g.met.M.Metric.symmetry (g.I.RangeIndex.width c.place.new.index) a b found.lawful) in
    absent added

pub count_in-requires-clause-there : goal.count_in-requires-clause-there
count_in-requires-clause-there g c =
    let found = c.in_ok-around.ensures.found in
    let grown = g.met.I.RangeIndex.inserts c.args.index.now c.place.new.index c.args.number c.args.vector c.in_ok-around.ensures.inserted in
    let added = add_up c.requires.fits c.requires.pair grown (c.as_slice.ensures ∙ found.found) found.vectors
    (λ a b. g.met.M.Metric.identity (g.I.RangeIndex.width c.place.new.index) a b found.lawful)
    (λ a b. g.met.M.Metric.symmetry (g.I.RangeIndex.width c.place.new.index) a b found.lawful) in
    there added

pub count_in-requires-clause-once : goal.count_in-requires-clause-once
count_in-requires-clause-once g c =
    let found = c.in_ok-around.ensures.found in
    let grown = g.met.I.RangeIndex.inserts c.args.index.now c.place.new.index c.args.number c.args.vector c.in_ok-around.ensures.inserted in
    let added = add_up c.requires.fits c.requires.pair grown (c.as_slice.ensures ∙ found.found) found.vectors
    (λ a b. g.met.M.Metric.identity (g.I.RangeIndex.width c.place.new.index) a b found.lawful)
    (λ a b. g.met.M.Metric.symmetry (g.I.RangeIndex.width c.place.new.index) a b found.lawful) in
    once added

pub count_in-requires-clause-few : goal.count_in-requires-clause-few
count_in-requires-clause-few g c =
    let found = c.in_ok-around.ensures.found in
    let grown = g.met.I.RangeIndex.inserts c.args.index.now c.place.new.index c.args.number c.args.vector c.in_ok-around.ensures.inserted in
    let added = add_up c.requires.fits c.requires.pair grown (c.as_slice.ensures ∙ found.found) found.vectors
    (λ a b. g.met.M.Metric.identity (g.I.RangeIndex.width c.place.new.index) a b found.lawful)
    (λ a b. g.met.M.Metric.symmetry (g.I.RangeIndex.width c.place.new.index) a b found.lawful) in
    few added

pub seeds_in-requires-clause-index : goal.seeds_in-requires-clause-index
seeds_in-requires-clause-index g c =
    let found = c.in_ok-around.ensures.found in
    let grown = g.met.I.RangeIndex.inserts c.args.index.now c.place.new.index c.args.number c.args.vector c.in_ok-around.ensures.inserted in
    let added = add_up c.requires.fits c.requires.pair grown (c.as_slice.ensures ∙ found.found) found.vectors
    (λ a b. g.met.M.Metric.identity (g.I.RangeIndex.width c.place.new.index) a b found.lawful)
    (λ a b. g.met.M.Metric.symmetry (g.I.RangeIndex.width c.place.new.index) a b found.lawful) in
    held_now added c.in_ok-insert.ensures.ok

pub seeds_in-requires-clause-cores : goal.seeds_in-requires-clause-cores
seeds_in-requires-clause-cores g c =
    let found = c.in_ok-around.ensures.found in
    let grown = g.met.I.RangeIndex.inserts c.args.index.now c.place.new.index c.args.number c.args.vector c.in_ok-around.ensures.inserted in
    let added = add_up c.requires.fits c.requires.pair grown (c.as_slice.ensures ∙ found.found) found.vectors
    (λ a b. g.met.M.Metric.identity (g.I.RangeIndex.width c.place.new.index) a b found.lawful)
    (λ a b. g.met.M.Metric.symmetry (g.I.RangeIndex.width c.place.new.index) a b found.lawful) in
    let counted = c.in_ok-cores.ensures.counts in
    let are = c.in_ok-cores.ensures.cores in
    let same = c.in_ok-insert.ensures.ok in
    new_now added same counted are

pub join_all-requires : goal.join_all-requires
join_all-requires g c =
    let found = c.in_ok-around.ensures.found in
    let grown = g.met.I.RangeIndex.inserts c.args.index.now c.place.new.index c.args.number c.args.vector c.in_ok-around.ensures.inserted in
    let added = add_up c.requires.fits c.requires.pair grown (c.as_slice.ensures ∙ found.found) found.vectors
    (λ a b. g.met.M.Metric.identity (g.I.RangeIndex.width c.place.new.index) a b found.lawful)
    (λ a b. g.met.M.Metric.symmetry (g.I.RangeIndex.width c.place.new.index) a b found.lawful) in
    let counted = c.in_ok-cores.ensures.counts in
    let are = c.in_ok-cores.ensures.cores in
    let same = c.in_ok-insert.ensures.ok in
    rw c.as_slice-2.ensures (joinable added same counted are c.in_ok-groups.ensures.groups)

pub returns-in_err-around-clause-index_err : goal.returns-in_err-around-clause-index_err
returns-in_err-around-clause-index_err g c =
    err_index _ c.in_err-around.ensures.err

pub returns-in_err-around-clause-price_err : goal.returns-in_err-around-clause-price_err
returns-in_err-around-clause-price_err g c stood =
    err_first _ c.in_err-around.ensures.err (λ h. first_price (density g.M.Metric.dist c.args.eps c.args.counts.now.minpts) (g.I.RangeIndex.cost c.place.new.index) c.args.records.now c.args.number c.args.vector c.args.steps.now c.place.new.steps h)

pub returns-in_err-insert-clause-index_err : goal.returns-in_err-insert-clause-index_err
returns-in_err-insert-clause-index_err g c =
    err_left _ (c.place.new.steps ≤ c.args.steps.now + 16384) c.in_ok-around.ensures.inserted

pub returns-in_err-insert-clause-price_err : goal.returns-in_err-insert-clause-price_err
returns-in_err-insert-clause-price_err g c stood =
    err_left _ (c.place.new.steps ≤ c.args.steps.now + 16384) (first_price (density g.M.Metric.dist c.args.eps c.args.counts.now.minpts) (g.I.RangeIndex.cost c.place.new.index) c.args.records.now c.args.number c.args.vector c.args.steps.now c.place.new.steps c.in_ok-around.ensures.counted)

pub returns-in_err-cores-clause-index_err : goal.returns-in_err-cores-clause-index_err
returns-in_err-cores-clause-index_err g c =
    err_left _ (c.place.new.steps ≤ c.args.steps.now + 16384) c.in_ok-around.ensures.inserted

pub returns-in_err-cores-clause-price_err : goal.returns-in_err-cores-clause-price_err
returns-in_err-cores-clause-price_err g c stood =
    err_left _ (c.place.new.steps ≤ c.args.steps.now + 16384) (first_price (density g.M.Metric.dist c.args.eps c.args.counts.now.minpts) (g.I.RangeIndex.cost c.place.new.index) c.args.records.now c.args.number c.args.vector c.args.steps.now c.place.new.steps c.in_ok-around.ensures.counted)

pub returns-in_err-groups-clause-index_err : goal.returns-in_err-groups-clause-index_err
returns-in_err-groups-clause-index_err g c =
    err_left _ (c.seeds_in.new.steps ≤ c.args.steps.now + 16384) c.in_ok-around.ensures.inserted

pub returns-in_err-groups-clause-price_err : goal.returns-in_err-groups-clause-price_err
returns-in_err-groups-clause-price_err g c stood =
    let found = c.in_ok-around.ensures.found in
    let grown = g.met.I.RangeIndex.inserts c.args.index.now c.place.new.index c.args.number c.args.vector c.in_ok-around.ensures.inserted in
    let added = add_up c.requires.fits c.requires.pair grown (c.as_slice.ensures ∙ found.found) found.vectors
    (λ a b. g.met.M.Metric.identity (g.I.RangeIndex.width c.place.new.index) a b found.lawful)
    (λ a b. g.met.M.Metric.symmetry (g.I.RangeIndex.width c.place.new.index) a b found.lawful) in
    let counted = c.in_ok-cores.ensures.counts in
    let are = c.in_ok-cores.ensures.cores in
    let same = c.in_ok-insert.ensures.ok in
    err_left _ (c.seeds_in.new.steps ≤ c.args.steps.now + 16384) (end_price added same counted are stood (g.I.RangeIndex.cost c.place.new.index) c.args.steps.now c.place.new.steps c.seeds_in.new.steps c.in_ok-around.ensures.counted c.seeds_in.ensures.at_most)

pub returns-in_err-join_all-clause-index_err : goal.returns-in_err-join_all-clause-index_err
returns-in_err-join_all-clause-index_err g c =
    err_left _ (c.seeds_in.new.steps ≤ c.args.steps.now + 16384) c.in_ok-around.ensures.inserted

pub returns-in_err-join_all-clause-price_err : goal.returns-in_err-join_all-clause-price_err
returns-in_err-join_all-clause-price_err g c stood =
    let found = c.in_ok-around.ensures.found in
    let grown = g.met.I.RangeIndex.inserts c.args.index.now c.place.new.index c.args.number c.args.vector c.in_ok-around.ensures.inserted in
    let added = add_up c.requires.fits c.requires.pair grown (c.as_slice.ensures ∙ found.found) found.vectors
    (λ a b. g.met.M.Metric.identity (g.I.RangeIndex.width c.place.new.index) a b found.lawful)
    (λ a b. g.met.M.Metric.symmetry (g.I.RangeIndex.width c.place.new.index) a b found.lawful) in
    let counted = c.in_ok-cores.ensures.counts in
    let are = c.in_ok-cores.ensures.cores in
    let same = c.in_ok-insert.ensures.ok in
    err_left _ (c.seeds_in.new.steps ≤ c.args.steps.now + 16384) (end_price added same counted are stood (g.I.RangeIndex.cost c.place.new.index) c.args.steps.now c.place.new.steps c.seeds_in.new.steps c.in_ok-around.ensures.counted c.seeds_in.ensures.at_most)

pub returns-then-len-eq0-clause-fits : goal.returns-then-len-eq0-clause-fits
returns-then-len-eq0-clause-fits g c =
    let found = c.in_ok-around.ensures.found in
    let grown = g.met.I.RangeIndex.inserts c.args.index.now c.place.new.index c.args.number c.args.vector c.in_ok-around.ensures.inserted in
    let added = add_up c.requires.fits c.requires.pair grown (c.as_slice.ensures ∙ found.found) found.vectors
    (λ a b. g.met.M.Metric.identity (g.I.RangeIndex.width c.place.new.index) a b found.lawful)
    (λ a b. g.met.M.Metric.symmetry (g.I.RangeIndex.width c.place.new.index) a b found.lawful) in
    let counted = c.in_ok-cores.ensures.counts in
    let are = c.in_ok-cores.ensures.cores in
    let same = c.in_ok-insert.ensures.ok in
    let empty = empty_list c.in_ok-cores.cores (sym c.len.ensures ∙ c.if-len-eq0.true) in
    on_ok_weaker c.push.result (λ e. none_fits added same counted are empty) c.push.ensures.ok

pub returns-then-len-eq0-clause-events : goal.returns-then-len-eq0-clause-events
returns-then-len-eq0-clause-events g c =
    let found = c.in_ok-around.ensures.found in
    let grown = g.met.I.RangeIndex.inserts c.args.index.now c.place.new.index c.args.number c.args.vector c.in_ok-around.ensures.inserted in
    let added = add_up c.requires.fits c.requires.pair grown (c.as_slice.ensures ∙ found.found) found.vectors
    (λ a b. g.met.M.Metric.identity (g.I.RangeIndex.width c.place.new.index) a b found.lawful)
    (λ a b. g.met.M.Metric.symmetry (g.I.RangeIndex.width c.place.new.index) a b found.lawful) in
    let counted = c.in_ok-cores.ensures.counts in
    let are = c.in_ok-cores.ensures.cores in
    let same = c.in_ok-insert.ensures.ok in
    let empty = empty_list c.in_ok-cores.cores (sym c.len.ensures ∙ c.if-len-eq0.true) in
    on_ok_weaker c.push.result (λ e. told_noise added counted are empty _ _ e) c.push.ensures.ok

pub returns-then-len-eq0-clause-stands : goal.returns-then-len-eq0-clause-stands
returns-then-len-eq0-clause-stands g c stood =
    let found = c.in_ok-around.ensures.found in
    let grown = g.met.I.RangeIndex.inserts c.args.index.now c.place.new.index c.args.number c.args.vector c.in_ok-around.ensures.inserted in
    let added = add_up c.requires.fits c.requires.pair grown (c.as_slice.ensures ∙ found.found) found.vectors
    (λ a b. g.met.M.Metric.identity (g.I.RangeIndex.width c.place.new.index) a b found.lawful)
    (λ a b. g.met.M.Metric.symmetry (g.I.RangeIndex.width c.place.new.index) a b found.lawful) in
    let counted = c.in_ok-cores.ensures.counts in
    let are = c.in_ok-cores.ensures.cores in
    let same = c.in_ok-insert.ensures.ok in
    let empty = empty_list c.in_ok-cores.cores (sym c.len.ensures ∙ c.if-len-eq0.true) in
    on_ok_weaker c.push.result (λ e. none_stands added same counted are empty stood) c.push.ensures.ok

pub returns-then-len-eq0-clause-told : goal.returns-then-len-eq0-clause-told
returns-then-len-eq0-clause-told g c stood =
    let found = c.in_ok-around.ensures.found in
    let grown = g.met.I.RangeIndex.inserts c.args.index.now c.place.new.index c.args.number c.args.vector c.in_ok-around.ensures.inserted in
    let added = add_up c.requires.fits c.requires.pair grown (c.as_slice.ensures ∙ found.found) found.vectors
    (λ a b. g.met.M.Metric.identity (g.I.RangeIndex.width c.place.new.index) a b found.lawful)
    (λ a b. g.met.M.Metric.symmetry (g.I.RangeIndex.width c.place.new.index) a b found.lawful) in
    let counted = c.in_ok-cores.ensures.counts in
    let are = c.in_ok-cores.ensures.cores in
    let same = c.in_ok-insert.ensures.ok in
    let empty = empty_list c.in_ok-cores.cores (sym c.len.ensures ∙ c.if-len-eq0.true) in
    on_ok_weaker c.push.result (λ e. none_told added same counted are empty _ _ stood e) c.push.ensures.ok

pub returns-then-len-eq0-clause-price : goal.returns-then-len-eq0-clause-price
returns-then-len-eq0-clause-price g c stood =
    on_ok_weaker c.push.result (λ e. first_price (density g.M.Metric.dist c.args.eps c.args.counts.now.minpts) (g.I.RangeIndex.cost c.place.new.index) c.args.records.now c.args.number c.args.vector c.args.steps.now c.place.new.steps c.in_ok-around.ensures.counted) c.push.ensures.ok

pub returns-then-len-eq0-clause-price_err : goal.returns-then-len-eq0-clause-price_err
returns-then-len-eq0-clause-price_err g c stood =
    on_err_weaker c.push.result (λ e. inl (first_price (density g.M.Metric.dist c.args.eps c.args.counts.now.minpts) (g.I.RangeIndex.cost c.place.new.index) c.args.records.now c.args.number c.args.vector c.args.steps.now c.place.new.steps c.in_ok-around.ensures.counted)) c.push.ensures.err

pub returns-clause-records : goal.returns-clause-records
returns-clause-records g c =
    c.in_ok-insert.ensures.ok

pub returns-clause-minpts : goal.returns-clause-minpts
returns-clause-minpts g c =
    let found = c.in_ok-around.ensures.found in
    let grown = g.met.I.RangeIndex.inserts c.args.index.now c.place.new.index c.args.number c.args.vector c.in_ok-around.ensures.inserted in
    let added = add_up c.requires.fits c.requires.pair grown (c.as_slice.ensures ∙ found.found) found.vectors
    (λ a b. g.met.M.Metric.identity (g.I.RangeIndex.width c.place.new.index) a b found.lawful)
    (λ a b. g.met.M.Metric.symmetry (g.I.RangeIndex.width c.place.new.index) a b found.lawful) in
    let counted = c.in_ok-cores.ensures.counts in
    let are = c.in_ok-cores.ensures.cores in
    let same = c.in_ok-insert.ensures.ok in
    same_minpts added counted are c.in_ok-groups.ensures.anchors

pub returns-clause-index : goal.returns-clause-index
returns-clause-index g c =
    c.in_ok-around.ensures.inserted

pub returns-clause-fits : goal.returns-clause-fits
returns-clause-fits g c =
    let found = c.in_ok-around.ensures.found in
    let grown = g.met.I.RangeIndex.inserts c.args.index.now c.place.new.index c.args.number c.args.vector c.in_ok-around.ensures.inserted in
    let added = add_up c.requires.fits c.requires.pair grown (c.as_slice.ensures ∙ found.found) found.vectors
    (λ a b. g.met.M.Metric.identity (g.I.RangeIndex.width c.place.new.index) a b found.lawful)
    (λ a b. g.met.M.Metric.symmetry (g.I.RangeIndex.width c.place.new.index) a b found.lawful) in
    let counted = c.in_ok-cores.ensures.counts in
    let are = c.in_ok-cores.ensures.cores in
    let same = c.in_ok-insert.ensures.ok in
    let offered = c.in_ok-groups.ensures.anchors in
    let gathered = c.in_ok-groups.ensures.groups in
    let list = c.as_slice-2.ensures in
    let labelled = rw list at c.in_ok-join_all.ensures.labelled in
    end_fits added same counted are offered gathered labelled c.labels_are_least.ensures

pub returns-clause-events : goal.returns-clause-events
returns-clause-events g c =
    let found = c.in_ok-around.ensures.found in
    let grown = g.met.I.RangeIndex.inserts c.args.index.now c.place.new.index c.args.number c.args.vector c.in_ok-around.ensures.inserted in
    let added = add_up c.requires.fits c.requires.pair grown (c.as_slice.ensures ∙ found.found) found.vectors
    (λ a b. g.met.M.Metric.identity (g.I.RangeIndex.width c.place.new.index) a b found.lawful)
    (λ a b. g.met.M.Metric.symmetry (g.I.RangeIndex.width c.place.new.index) a b found.lawful) in
    let counted = c.in_ok-cores.ensures.counts in
    let are = c.in_ok-cores.ensures.cores in
    let same = c.in_ok-insert.ensures.ok in
    let offered = c.in_ok-groups.ensures.anchors in
    let gathered = c.in_ok-groups.ensures.groups in
    let list = c.as_slice-2.ensures in
    let labelled = rw list at c.in_ok-join_all.ensures.labelled in
    let told = rw list at c.in_ok-join_all.ensures.events in
    let some = some_list c.in_ok-cores.cores (λ e. c.if-len-eq0.false (c.len.ensures ∙ e)) in
    told_groups added counted are offered c.in_ok-groups.groups some gathered told

pub returns-clause-stands : goal.returns-clause-stands
returns-clause-stands g c stood =
    let found = c.in_ok-around.ensures.found in
    let grown = g.met.I.RangeIndex.inserts c.args.index.now c.place.new.index c.args.number c.args.vector c.in_ok-around.ensures.inserted in
    let added = add_up c.requires.fits c.requires.pair grown (c.as_slice.ensures ∙ found.found) found.vectors
    (λ a b. g.met.M.Metric.identity (g.I.RangeIndex.width c.place.new.index) a b found.lawful)
    (λ a b. g.met.M.Metric.symmetry (g.I.RangeIndex.width c.place.new.index) a b found.lawful) in
    let counted = c.in_ok-cores.ensures.counts in
    let are = c.in_ok-cores.ensures.cores in
    let same = c.in_ok-insert.ensures.ok in
    let offered = c.in_ok-groups.ensures.anchors in
    let gathered = c.in_ok-groups.ensures.groups in
    let list = c.as_slice-2.ensures in
    let labelled = rw list at c.in_ok-join_all.ensures.labelled in
    let joined = rw list at c.in_ok-join_all.ensures.labels in
    let merged = c.in_ok-groups.ensures.clusters in
    end_stands added same counted are offered gathered labelled c.labels_are_least.ensures stood merged joined

pub returns-clause-told : goal.returns-clause-told
returns-clause-told g c stood =
    let found = c.in_ok-around.ensures.found in
    let grown = g.met.I.RangeIndex.inserts c.args.index.now c.place.new.index c.args.number c.args.vector c.in_ok-around.ensures.inserted in
    let added = add_up c.requires.fits c.requires.pair grown (c.as_slice.ensures ∙ found.found) found.vectors
    (λ a b. g.met.M.Metric.identity (g.I.RangeIndex.width c.place.new.index) a b found.lawful)
    (λ a b. g.met.M.Metric.symmetry (g.I.RangeIndex.width c.place.new.index) a b found.lawful) in
    let counted = c.in_ok-cores.ensures.counts in
    let are = c.in_ok-cores.ensures.cores in
    let same = c.in_ok-insert.ensures.ok in
    let offered = c.in_ok-groups.ensures.anchors in
    let gathered = c.in_ok-groups.ensures.groups in
    let list = c.as_slice-2.ensures in
    let labelled = rw list at c.in_ok-join_all.ensures.labelled in
    let joined = rw list at c.in_ok-join_all.ensures.labels in
    let merged = c.in_ok-groups.ensures.clusters in
    let told = rw list at c.in_ok-join_all.ensures.events in
    let some = some_list c.in_ok-cores.cores (λ e. c.if-len-eq0.false (c.len.ensures ∙ e)) in
    end_told added same counted are offered gathered labelled c.labels_are_least.ensures stood merged joined some told

pub returns-clause-price : goal.returns-clause-price
returns-clause-price g c stood =
    let found = c.in_ok-around.ensures.found in
    let grown = g.met.I.RangeIndex.inserts c.args.index.now c.place.new.index c.args.number c.args.vector c.in_ok-around.ensures.inserted in
    let added = add_up c.requires.fits c.requires.pair grown (c.as_slice.ensures ∙ found.found) found.vectors
    (λ a b. g.met.M.Metric.identity (g.I.RangeIndex.width c.place.new.index) a b found.lawful)
    (λ a b. g.met.M.Metric.symmetry (g.I.RangeIndex.width c.place.new.index) a b found.lawful) in
    let counted = c.in_ok-cores.ensures.counts in
    let are = c.in_ok-cores.ensures.cores in
    let same = c.in_ok-insert.ensures.ok in
    end_price added same counted are stood (g.I.RangeIndex.cost c.place.new.index) c.args.steps.now c.place.new.steps c.seeds_in.new.steps c.in_ok-around.ensures.counted c.seeds_in.ensures.at_most
