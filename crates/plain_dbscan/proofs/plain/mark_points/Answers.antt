use Rattle.std.proofs.Common.{◌+◌, ◌*◌, ◌≤◌, ℕ, length, sym, subst}
use Rattle.plain_dbscan.specs.Marks.{Density, density}
use Rattle.plain_dbscan.specs.Points.{ArePointSizes}
use Rattle.plain_dbscan.proofs.Packed.{packed_length, point_sizes}
use Rattle.plain_dbscan.proofs.Bounds.{in_first, in_all}
use Rattle.plain_dbscan.proofs.plain.mark_points.Goals as goal

pub mark_by_sizes-requires-clause-sizes : goal.mark_by_sizes-requires-clause-sizes
mark_by_sizes-requires-clause-sizes g c =
    let d : Density = density g.M.Metric.dist c.args.eps c.args.minpts in
    subst (ArePointSizes d c.args.points.now) (sym c.deref.ensures.value) (point_sizes d c.args.points.now c.in_ok-rows.rows c.in_ok-sizes.sizes.items c.in_ok-rows.ensures.packed c.in_ok-sizes.ensures.sizes)

pub returns-in_err-sizes-clause-few : goal.returns-in_err-sizes-clause-few
returns-in_err-sizes-clause-few g c =
    let long = packed_length c.args.points.now c.in_ok-rows.rows c.in_ok-rows.ensures.packed in
    in_first (length c.args.points.now) c.args.steps.now c.find_sizes.new.steps (subst (λ (m : ℕ). c.find_sizes.new.steps ≤ c.args.steps.now + m * m) long c.find_sizes.ensures.few)

pub returns-clause-few : goal.returns-clause-few
returns-clause-few g c =
    let long = packed_length c.args.points.now c.in_ok-rows.rows c.in_ok-rows.ensures.packed in
    in_all (length c.args.points.now) c.args.steps.now c.find_sizes.new.steps c.mark_by_sizes.new.steps (subst (λ (m : ℕ). c.find_sizes.new.steps ≤ c.args.steps.now + m * m) long c.find_sizes.ensures.few) c.mark_by_sizes.ensures.few
