use Rattle.std.proofs.Common.{◌≡◌, ◌<◌, ◌+◌, ◌-◌, ℕ, List, length, take, filter, nat_le, sym, ap, subst, ◌∙◌, arith}
use Rattle.std.specs.List.{range_with_len, AllByRecursion}
use Rattle.vec_record.specs.Table.{row_at}
use Rattle.plain_dbscan.specs.inside.Roots.{AreRoots, near_before, roots_of, joined_each}
use Rattle.plain_dbscan.proofs.SizesOf.{near_place, all_below}
use Rattle.plain_dbscan.proofs.RootsOf.{roots_next}
use Rattle.plain_dbscan.proofs.labels.join_row.Goals as goal

pub join_each-requires-clause-places : goal.join_each-requires-clause-places
join_each-requires-clause-places g c =
    let dist = g.M.Metric.dist in
    let t = c.args.rows.now in
    let i = c.args.i in
    let none : i - 0 ≡ i = omega arith in
    let near_is : take c.within_range-found.result c.within_range-found.new.near ≡ near_before dist c.args.eps t i =
    c.within_range-found.ensures.near
    ∙ ap (λ (v : List ℕ). filter (λ place. nat_le (dist v (row_at t place)) c.args.eps) (range_with_len 0 (i - 0))) c.row.ensures.value
    ∙ ap (λ (m : ℕ). filter (near_place dist c.args.eps t i) (range_with_len 0 m)) none in
    subst (AllByRecursion (λ k. k < length c.args.parents.now)) (sym near_is) (all_below (near_place dist c.args.eps t i) _ 0 i (omega (arith, c.requires.lengths, c.requires.place)))

pub returns-clause-roots : goal.returns-clause-roots
returns-clause-roots g c =
    let dist = g.M.Metric.dist in
    let t = c.args.rows.now in
    let i = c.args.i in
    let none : i - 0 ≡ i = omega arith in
    let near_is : take c.within_range-found.result c.within_range-found.new.near ≡ near_before dist c.args.eps t i =
    c.within_range-found.ensures.near
    ∙ ap (λ (v : List ℕ). filter (λ place. nat_le (dist v (row_at t place)) c.args.eps) (range_with_len 0 (i - 0))) c.row.ensures.value
    ∙ ap (λ (m : ℕ). filter (near_place dist c.args.eps t i) (range_with_len 0 m)) none in
    let roots = roots_of dist c.args.eps t i in
    let are : joined_each i (take c.within_range-found.result c.within_range-found.new.near) roots ≡ roots_of dist c.args.eps t (i + 1) =
    ap (λ (js : List ℕ). joined_each i js roots) near_is ∙ sym (roots_next dist c.args.eps t i) in
    subst (AreRoots c.join_each.new.parents) are (c.join_each.ensures.roots roots c.requires.roots)
