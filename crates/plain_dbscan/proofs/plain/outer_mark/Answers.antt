use Rattle.std.proofs.Common.{rules, ◌≡◌, ◌<◌, ◌-◌, ◌*◌, ℕ, List, [], length, get_or, take, filter, nat_le, sym, ap, ◌∙◌, arith}
use Rattle.std.specs.List.{range_with_len}
use Rattle.std.proofs.lemmas.List.{length-take-le, get_or-take}
use Rattle.vec_record.specs.Table.{row_at}
use Rattle.plain_dbscan.specs.declared.marks.Mark.TheVariants.{Border}
use Rattle.plain_dbscan.specs.Points.{is_near_row, mark_by_place}
use Rattle.plain_dbscan.proofs.Places.{first_kept, none_kept}
use Rattle.plain_dbscan.proofs.plain.outer_mark.Goals as goal

-- the first of the places that were found, and that it is the first row near the vector
pub bounds-labels-near : goal.bounds-labels-near
bounds-labels-near g c =
    let t = c.args.rows.now in
    let found = c.within_range-found.result in
    let near = c.within_range-found.new.near in
    let near_is : take found near ≡ filter (λ k. is_near_row g.M.Metric.dist c.args.eps c.args.vector.now (get_or t.rows k [])) (range_with_len 0 (c.len.result - 0)) =
    c.within_range-found.ensures.near ∙ ap (λ (v : List ℕ). filter (λ place. nat_le (g.M.Metric.dist v (row_at t place)) c.args.eps) (range_with_len 0 (c.len.result - 0))) c.as_slice.ensures.value in
    let kept : length near ≡ length c.args.near.now = search rules in
    let long : length (take found near) ≡ found = length-take-le found near (omega (arith, kept, c.requires.room, c.within_range-found.ensures.few, c.len.ensures)) in
    let first = first_kept (is_near_row g.M.Metric.dist c.args.eps c.args.vector.now) [] t.rows (c.len.result - 0) (omega (arith, c.len.ensures)) (omega (arith, long, ap length near_is, c.if-found-gt0.true)) in
    let at : get_or (take found near) 0 0 ≡ get_or near 0 0 = get_or-take found near 0 0 c.if-found-gt0.true in
    omega (arith, first.0, ap (λ (xs : List ℕ). get_or xs 0 0) near_is, at, c.requires.lengths)

pub offset_bounds-labels-near : goal.offset_bounds-labels-near
offset_bounds-labels-near g c =
    let t = c.args.rows.now in
    let found = c.within_range-found.result in
    let near = c.within_range-found.new.near in
    let near_is : take found near ≡ filter (λ k. is_near_row g.M.Metric.dist c.args.eps c.args.vector.now (get_or t.rows k [])) (range_with_len 0 (c.len.result - 0)) =
    c.within_range-found.ensures.near ∙ ap (λ (v : List ℕ). filter (λ place. nat_le (g.M.Metric.dist v (row_at t place)) c.args.eps) (range_with_len 0 (c.len.result - 0))) c.as_slice.ensures.value in
    let kept : length near ≡ length c.args.near.now = search rules in
    let long : length (take found near) ≡ found = length-take-le found near (omega (arith, kept, c.requires.room, c.within_range-found.ensures.few, c.len.ensures)) in
    let first = first_kept (is_near_row g.M.Metric.dist c.args.eps c.args.vector.now) [] t.rows (c.len.result - 0) (omega (arith, c.len.ensures)) (omega (arith, long, ap length near_is, c.if-found-gt0.true)) in
    let at : get_or (take found near) 0 0 ≡ get_or near 0 0 = get_or-take found near 0 0 c.if-found-gt0.true in
    let small : length c.args.labels.now * 4 < 9223372036854775808 = search rules in
    omega (arith, first.0, ap (λ (xs : List ℕ). get_or xs 0 0) near_is, at, c.requires.lengths, small)

pub returns-then-found-gt0-clause-mark : goal.returns-then-found-gt0-clause-mark
returns-then-found-gt0-clause-mark g c =
    let t = c.args.rows.now in
    let found = c.within_range-found.result in
    let near = c.within_range-found.new.near in
    let near_is : take found near ≡ filter (λ k. is_near_row g.M.Metric.dist c.args.eps c.args.vector.now (get_or t.rows k [])) (range_with_len 0 (c.len.result - 0)) =
    c.within_range-found.ensures.near ∙ ap (λ (v : List ℕ). filter (λ place. nat_le (g.M.Metric.dist v (row_at t place)) c.args.eps) (range_with_len 0 (c.len.result - 0))) c.as_slice.ensures.value in
    let kept : length near ≡ length c.args.near.now = search rules in
    let long : length (take found near) ≡ found = length-take-le found near (omega (arith, kept, c.requires.room, c.within_range-found.ensures.few, c.len.ensures)) in
    let first = first_kept (is_near_row g.M.Metric.dist c.args.eps c.args.vector.now) [] t.rows (c.len.result - 0) (omega (arith, c.len.ensures)) (omega (arith, long, ap length near_is, c.if-found-gt0.true)) in
    let at : get_or near 0 0 ≡ get_or (take found near) 0 0 = sym (get_or-take found near 0 0 c.if-found-gt0.true) in
    ap (λ (k : ℕ). Border (get_or c.args.labels.now k 0)) (at ∙ ap (λ (xs : List ℕ). get_or xs 0 0) near_is)
    ∙ sym (ap (mark_by_place c.args.labels.now) first.1)

pub returns-else-found-gt0-clause-mark : goal.returns-else-found-gt0-clause-mark
returns-else-found-gt0-clause-mark g c =
    let t = c.args.rows.now in
    let found = c.within_range-found.result in
    let near = c.within_range-found.new.near in
    let near_is : take found near ≡ filter (λ k. is_near_row g.M.Metric.dist c.args.eps c.args.vector.now (get_or t.rows k [])) (range_with_len 0 (c.len.result - 0)) =
    c.within_range-found.ensures.near ∙ ap (λ (v : List ℕ). filter (λ place. nat_le (g.M.Metric.dist v (row_at t place)) c.args.eps) (range_with_len 0 (c.len.result - 0))) c.as_slice.ensures.value in
    let kept : length near ≡ length c.args.near.now = search rules in
    let long : length (take found near) ≡ found = length-take-le found near (omega (arith, kept, c.requires.room, c.within_range-found.ensures.few, c.len.ensures)) in
    let none = none_kept (is_near_row g.M.Metric.dist c.args.eps c.args.vector.now) [] t.rows (c.len.result - 0) (omega (arith, c.len.ensures)) (omega (arith, long, ap length near_is, c.if-found-gt0.false)) in
    sym (ap (mark_by_place c.args.labels.now) none)
