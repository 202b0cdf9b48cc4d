use Rattle.std.proofs.Common.{rules, ◌≡◌, ◌<◌, ◌≤◌, ◌+◌, ◌*◌, ℕ, true, false, List, length, get_or, map, filter, nat_le, refl, sym, ap, subst, ◌∙◌, arith}
use Rattle.std.proofs.lemmas.Bool.Decides.{nat_tests}
use Rattle.std.proofs.lemmas.List.{length-map}
use Rattle.plain_dbscan.specs.declared.points.Point.{Point}
use Rattle.plain_dbscan.specs.Marks.{Density, density, numbers_of, cores_of, cluster_of, is_core, mark_of}
use Rattle.plain_dbscan.specs.Points.{entries_of, IsOfWidth, ArePacked, is_core_point}
use Rattle.plain_dbscan.proofs.PointsOf.{number_read, core_by_size_at}
use Rattle.plain_dbscan.proofs.Packed.{packed_length, room_kept}
use Rattle.plain_dbscan.proofs.MarksOf.{labels_by_cores, cores_wide, cores_rise, cores_few, marks_more, met_mark, met_below, next_met, packed_mark, lone_mark, next_unmet}
use Rattle.plain_dbscan.proofs.Bounds.{in_one, in_two, one_row}
use Rattle.plain_dbscan.proofs.plain.mark_by_sizes.Goals as goal
use Rattle.plain_dbscan.proofs.plain.mark_by_sizes.Goals.{then-sizes-i+in_ok-push, else-sizes-i+then-sizes-i-eq1+in_ok-push-2, else-sizes-i+else-sizes-i-eq1+in_ok-push-3}

pub pack-requires-clause-vectors : goal.pack-requires-clause-vectors
pack-requires-clause-vectors g c =
    let d : Density = density g.M.Metric.dist c.args.eps c.args.minpts in
    let points = c.args.points.now in
    let cores_are = c.deref.ensures.value ∙ c.in_ok-cores.ensures.cores d refl c.requires.sizes in
    cores_wide d (entries_of points) c.width_of.result points c.deref.result.now cores_are c.width_of.ensures.vectors

pub find_labels-requires-clause-vectors : goal.find_labels-requires-clause-vectors
find_labels-requires-clause-vectors g c =
    let d : Density = density g.M.Metric.dist c.args.eps c.args.minpts in
    let points = c.args.points.now in
    let cores_are = c.deref-2.ensures.value ∙ c.in_ok-cores.ensures.cores d refl c.requires.sizes in
    record { width = c.requires.vectors.width; all = cores_wide d (entries_of points) c.requires.vectors.width points c.deref-2.result.now cores_are c.requires.vectors.all }

pub find_labels-requires-clause-rising : goal.find_labels-requires-clause-rising
find_labels-requires-clause-rising g c =
    let d : Density = density g.M.Metric.dist c.args.eps c.args.minpts in
    cores_rise d c.args.points.now c.deref-2.result.now (c.deref-2.ensures.value ∙ c.in_ok-cores.ensures.cores d refl c.requires.sizes) c.requires.rising

pub find_labels-requires-clause-packed : goal.find_labels-requires-clause-packed
find_labels-requires-clause-packed g c =
    subst (λ (ps : List Point). ArePacked ps c.in_ok-rows.rows) (c.deref.ensures.value ∙ sym c.deref-2.ensures.value) c.in_ok-rows.ensures.packed

pub returns-in_err-labels-clause-few : goal.returns-in_err-labels-clause-few
returns-in_err-labels-clause-few g c =
    let d : Density = density g.M.Metric.dist c.args.eps c.args.minpts in
    let points = c.args.points.now in
    let few = cores_few d (entries_of points) points c.deref-2.result.now (c.deref-2.ensures.value ∙ c.in_ok-cores.ensures.cores d refl c.requires.sizes) in
    in_one (length points) (length c.deref-2.result.now) c.args.steps.now c.find_labels.new.steps few c.find_labels.ensures.few

pub returns-in_err-near-clause-few : goal.returns-in_err-near-clause-few
returns-in_err-near-clause-few g c =
    let d : Density = density g.M.Metric.dist c.args.eps c.args.minpts in
    let points = c.args.points.now in
    let few = cores_few d (entries_of points) points c.deref-2.result.now (c.deref-2.ensures.value ∙ c.in_ok-cores.ensures.cores d refl c.requires.sizes) in
    in_one (length points) (length c.deref-2.result.now) c.args.steps.now c.find_labels.new.steps few c.find_labels.ensures.few

pub bounds-labels-next : goal.bounds-labels-next
bounds-labels-next g c =
    let d : Density = density g.M.Metric.dist c.args.eps c.args.minpts in
    let points = c.args.points.now in
    let i = c.loop-i.i in
    let x = c.index-points-i.result in
    let cores_are = c.deref-2.ensures.value ∙ c.in_ok-cores.ensures.cores d refl c.requires.sizes in
    let labels_are : c.as_slice-labels.result.now ≡ map (cluster_of d (entries_of points)) (cores_of d (entries_of points)) =
    c.as_slice-labels.ensures.value ∙ labels_by_cores d points c.deref-2.result.now 0 c.in_ok-labels.labels.items cores_are c.requires.rising c.in_ok-labels.ensures.labels in
    let core : is_core_point d (entries_of points) x ≡ true =
    core_by_size_at d points c.args.sizes.now i x c.requires.rising c.requires.sizes c.loop-i-test.true c.index-points-i.is ∙ grind (arith, nat_tests, c.if-sizes-i.true) in
    met_below d points c.deref-2.result.now c.as_slice-labels.result.now c.requires.rising cores_are labels_are i c.loop-i.next x c.loop-i-test.true c.index-points-i.is core c.loop-i.invariant.next

pub offset_bounds-labels-next : goal.offset_bounds-labels-next
offset_bounds-labels-next g c =
    let d : Density = density g.M.Metric.dist c.args.eps c.args.minpts in
    let points = c.args.points.now in
    let i = c.loop-i.i in
    let x = c.index-points-i.result in
    let cores_are = c.deref-2.ensures.value ∙ c.in_ok-cores.ensures.cores d refl c.requires.sizes in
    let labels_are : c.as_slice-labels.result.now ≡ map (cluster_of d (entries_of points)) (cores_of d (entries_of points)) =
    c.as_slice-labels.ensures.value ∙ labels_by_cores d points c.deref-2.result.now 0 c.in_ok-labels.labels.items cores_are c.requires.rising c.in_ok-labels.ensures.labels in
    let core : is_core_point d (entries_of points) x ≡ true =
    core_by_size_at d points c.args.sizes.now i x c.requires.rising c.requires.sizes c.loop-i-test.true c.index-points-i.is ∙ grind (arith, nat_tests, c.if-sizes-i.true) in
    let below = met_below d points c.deref-2.result.now c.as_slice-labels.result.now c.requires.rising cores_are labels_are i c.loop-i.next x c.loop-i-test.true c.index-points-i.is core c.loop-i.invariant.next in
    omega (arith, below, c.as_slice-labels.type_inv.1)

pub overflow_add-next : goal.overflow_add-next
overflow_add-next g c =
    let d : Density = density g.M.Metric.dist c.args.eps c.args.minpts in
    let points = c.args.points.now in
    let i = c.loop-i.i in
    let x = c.index-points-i.result in
    let cores_are = c.deref-2.ensures.value ∙ c.in_ok-cores.ensures.cores d refl c.requires.sizes in
    let labels_are : c.as_slice-labels.result.now ≡ map (cluster_of d (entries_of points)) (cores_of d (entries_of points)) =
    c.as_slice-labels.ensures.value ∙ labels_by_cores d points c.deref-2.result.now 0 c.in_ok-labels.labels.items cores_are c.requires.rising c.in_ok-labels.ensures.labels in
    let core : is_core_point d (entries_of points) x ≡ true =
    core_by_size_at d points c.args.sizes.now i x c.requires.rising c.requires.sizes c.loop-i-test.true c.index-points-i.is ∙ grind (arith, nat_tests, c.if-sizes-i.true) in
    let below = met_below d points c.deref-2.result.now c.as_slice-labels.result.now c.requires.rising cores_are labels_are i c.loop-i.next x c.loop-i-test.true c.index-points-i.is core c.loop-i.invariant.next in
    omega (arith, below, c.as_slice-labels.type_inv.1)

pub returns-in_err-push-clause-few : goal.returns-in_err-push-clause-few
returns-in_err-push-clause-few g c =
    let d : Density = density g.M.Metric.dist c.args.eps c.args.minpts in
    let points = c.args.points.now in
    let few = cores_few d (entries_of points) points c.in_ok-cores.cores.items (c.in_ok-cores.ensures.cores d refl c.requires.sizes) in
    let first = subst (λ (m : ℕ). c.find_labels.new.steps ≤ c.args.steps.now + m * m) (ap length c.deref-2.ensures.value) c.find_labels.ensures.few in
    in_two (length points) (length c.in_ok-cores.cores.items) c.loop-i.i c.args.steps.now c.find_labels.new.steps c.loop-i.steps few (omega arith) first c.loop-i.invariant.few

pub returns-in_err-push-2-clause-few : goal.returns-in_err-push-2-clause-few
returns-in_err-push-2-clause-few g c =
    let d : Density = density g.M.Metric.dist c.args.eps c.args.minpts in
    let points = c.args.points.now in
    let few = cores_few d (entries_of points) points c.in_ok-cores.cores.items (c.in_ok-cores.ensures.cores d refl c.requires.sizes) in
    let first = subst (λ (m : ℕ). c.find_labels.new.steps ≤ c.args.steps.now + m * m) (ap length c.deref-2.ensures.value) c.find_labels.ensures.few in
    in_two (length points) (length c.in_ok-cores.cores.items) c.loop-i.i c.args.steps.now c.find_labels.new.steps c.loop-i.steps few (omega arith) first c.loop-i.invariant.few

pub outer_mark-mark-requires-clause-width : goal.outer_mark-mark-requires-clause-width
outer_mark-mark-requires-clause-width g c =
    let w = c.width_of.result in
    let here : IsOfWidth w c.index-points-i.result = subst (IsOfWidth w) (sym c.index-points-i.is) (c.width_of.ensures.vectors c.loop-i.i c.index-points-i.result c.loop-i-test.true) in
    here.vector.len ∙ sym c.in_ok-rows.ensures.width

pub returns-in_err-push-3-clause-few : goal.returns-in_err-push-3-clause-few
returns-in_err-push-3-clause-few g c =
    let d : Density = density g.M.Metric.dist c.args.eps c.args.minpts in
    let points = c.args.points.now in
    let m = length c.in_ok-cores.cores.items in
    let few = cores_few d (entries_of points) points c.in_ok-cores.cores.items (c.in_ok-cores.ensures.cores d refl c.requires.sizes) in
    let first = subst (λ (k : ℕ). c.find_labels.new.steps ≤ c.args.steps.now + k * k) (ap length c.deref-2.ensures.value) c.find_labels.ensures.few in
    let long : length c.in_ok-rows.rows.rows ≡ m = packed_length c.deref.result.now c.in_ok-rows.rows c.in_ok-rows.ensures.packed ∙ ap length c.deref.ensures.value in
    let more = one_row c.find_labels.new.steps c.loop-i.i m c.loop-i.steps c.outer_mark-mark.new.steps c.loop-i.invariant.few (omega (arith, c.outer_mark-mark.ensures.few, long)) in
    in_two (length points) m (c.loop-i.i + 1) c.args.steps.now c.find_labels.new.steps c.outer_mark-mark.new.steps few (omega arith) first more

pub loop-i-preserved : goal.loop-i-preserved
loop-i-preserved g c =
    let d : Density = density g.M.Metric.dist c.args.eps c.args.minpts in
    let points = c.args.points.now in
    let rows = entries_of points in
    let sorted = c.requires.rising in
    let sizes = c.args.sizes.now in
    let cores = c.in_ok-cores.cores.items in
    let labels = c.as_slice-labels.result.now in
    let cores_are : cores ≡ filter (is_core_point d rows) points = c.in_ok-cores.ensures.cores d refl c.requires.sizes in
    let labels_are : labels ≡ map (cluster_of d rows) (cores_of d rows) =
    c.as_slice-labels.ensures.value ∙ labels_by_cores d points c.deref-2.result.now 0 c.in_ok-labels.labels.items (c.deref-2.ensures.value ∙ cores_are) sorted c.in_ok-labels.ensures.labels in
    let packed : ArePacked cores c.in_ok-rows.rows = subst (λ (ps : List Point). ArePacked ps c.in_ok-rows.rows) c.deref.ensures.value c.in_ok-rows.ensures.packed in
    let inv = c.loop-i.invariant in
    let i = c.loop-i.i in
    let next = c.loop-i.next in
    let m = length cores in
    let p = c.index-points-i.result in
    let h : i < length points = c.loop-i-test.true in
    let is : p ≡ get_or points i p = c.index-points-i.is in
    let lt : i < length (numbers_of rows) = simp length-map h in
    let number = number_read points i p h is in
    let enough : is_core d rows p.number ≡ nat_le c.args.minpts (get_or sizes i 0) = core_by_size_at d points sizes i p sorted c.requires.sizes h is in
    elim c.if-sizes-i.branch [
      | then-sizes-i+in_ok-push w ↦
          let core : is_core d rows p.number ≡ true = enough ∙ grind (arith, nat_tests, w.if-sizes-i.true) in
          let mark = met_mark d points cores labels sorted cores_are labels_are i next p h is core inv.next in
          record {
            marks = w.marks-is ∙ w.in_ok-push.ensures.ok ∙ marks_more (mark_of d rows) (numbers_of rows) i p.number _ c.loop-i.marks lt number mark inv.marks;
            next = w.next-is ∙ next_met d points cores labels sorted cores_are labels_are i next p h is core inv.next;
            few = one_row c.find_labels.new.steps i m c.loop-i.steps c.if-sizes-i.steps inv.few (omega (arith, w.steps-is));
            counts = omega (arith, w.steps-is, inv.counts);
            room = ap (λ near. length near.items) w.near-is ∙ inv.room;
          }
      | else-sizes-i+then-sizes-i-eq1+in_ok-push-2 w ↦
          let off : is_core d rows p.number ≡ false = enough ∙ grind (arith, nat_tests, w.if-sizes-i.false) in
          let wide : IsOfWidth c.requires.vectors.width p = subst (IsOfWidth c.requires.vectors.width) (sym is) (c.requires.vectors.all i p h) in
          let itself : g.M.Metric.dist p.vector.now p.vector.now ≡ 0 = (g.met.M.Metric.identity c.requires.vectors.width p.vector.now p.vector.now wide.lawful wide.vector wide.vector).1 refl in
          let one = sym (c.requires.sizes.each i p h is) ∙ w.if-sizes-i-eq1.true in
          let mark = lone_mark d points cores labels sorted cores_are labels_are i p h is off itself one in
          record {
            marks = w.marks-is ∙ w.in_ok-push-2.ensures.ok ∙ marks_more (mark_of d rows) (numbers_of rows) i p.number _ c.loop-i.marks lt number mark inv.marks;
            next = w.next-is ∙ next_unmet d points cores labels sorted cores_are labels_are i next p h is off inv.next;
            few = one_row c.find_labels.new.steps i m c.loop-i.steps c.if-sizes-i.steps inv.few (omega (arith, w.steps-is));
            counts = omega (arith, w.steps-is, inv.counts);
            room = ap (λ near. length near.items) w.near-is ∙ inv.room;
          }
      | else-sizes-i+else-sizes-i-eq1+in_ok-push-3 w ↦
          let off : is_core d rows p.number ≡ false = enough ∙ grind (arith, nat_tests, w.if-sizes-i.false) in
          let mark = packed_mark d points cores labels sorted cores_are labels_are c.in_ok-rows.rows packed i p h is off in
          let long : length c.in_ok-rows.rows.rows ≡ m = packed_length cores c.in_ok-rows.rows packed in
          let full : c.loop-i.near.len ≡ m = search rules in
          let near_long : length w.outer_mark-mark.new.near ≡ m = search rules in
          record {
            marks = w.marks-is ∙ w.in_ok-push-3.ensures.ok ∙ marks_more (mark_of d rows) (numbers_of rows) i p.number _ c.loop-i.marks lt number (w.outer_mark-mark.ensures.mark ∙ mark) inv.marks;
            next = w.next-is ∙ next_unmet d points cores labels sorted cores_are labels_are i next p h is off inv.next;
            few = one_row c.find_labels.new.steps i m c.loop-i.steps c.if-sizes-i.steps inv.few (omega (arith, w.steps-is, w.outer_mark-mark.ensures.few, long));
            counts = omega (arith, w.steps-is, w.outer_mark-mark.ensures.counts, inv.counts);
            room = ap (λ near. length near.items) w.near-is ∙ room_kept c.loop-i.near.len m w.outer_mark-mark.new.near c.loop-i.near.items full near_long;
          }
    ]

pub returns-clause-few : goal.returns-clause-few
returns-clause-few g c =
    let d : Density = density g.M.Metric.dist c.args.eps c.args.minpts in
    let points = c.args.points.now in
    let few = cores_few d (entries_of points) points c.in_ok-cores.cores.items (c.in_ok-cores.ensures.cores d refl c.requires.sizes) in
    let first = subst (λ (m : ℕ). c.find_labels.new.steps ≤ c.args.steps.now + m * m) (ap length c.deref-2.ensures.value) c.find_labels.ensures.few in
    in_two (length points) (length c.in_ok-cores.cores.items) c.loop-i.i c.args.steps.now c.find_labels.new.steps c.loop-i.steps few (omega arith) first c.loop-i.invariant.few
