use Rattle.std.proofs.Common.{rules, ◌≡◌, ◌+◌, ℕ, List, length, sym, ap, subst, ◌∙◌, arith}
use Rattle.std.specs.List.{range_with_len}
use Rattle.std.proofs.lemmas.List.FromFn.{length-range_with_len}
use Rattle.plain_dbscan.specs.inside.Roots.{AreParents, AreRoots, roots_of}
use Rattle.plain_dbscan.proofs.Packed.{list_kept, room_kept}
use Rattle.plain_dbscan.proofs.Bounds.{one_row}
use Rattle.plain_dbscan.proofs.RootsOf.{first_parents, first_roots}
use Rattle.plain_dbscan.proofs.labels.join_rows.Goals as goal

pub loop-i-init : goal.loop-i-init
loop-i-init g c =
    let n = length c.args.rows.now.rows in
    let items_are : c.in_ok-parents.parents.items ≡ range_with_len 0 n = c.in_ok-parents.ensures ∙ ap (range_with_len 0) c.len.ensures in
    record {
      lengths = ap length items_are ∙ length-range_with_len 0 n;
      parents = subst AreParents (sym items_are) (first_parents n);
      roots = subst (λ (ps : List ℕ). AreRoots ps (range_with_len 0 n)) (sym items_are) (first_roots n);
      few = omega arith;
      counts = omega arith;
      room = search rules;
    }

pub loop-i-preserved : goal.loop-i-preserved
loop-i-preserved g c =
    let n = length c.args.rows.now.rows in
    let now = c.join_row.new.parents in
    let roots = roots_of g.M.Metric.dist c.args.eps c.args.rows.now (c.loop-i.i + 1) in
    let long : length now ≡ n = search rules in
    let full : c.loop-i.parents.len ≡ length now = search rules in
    let kept = list_kept c.loop-i.parents.len now c.loop-i.parents.items full in
    let near_full : c.loop-i.near.len ≡ n = search rules in
    let near_long : length c.join_row.new.near ≡ n = search rules in
    record {
      lengths = ap length kept ∙ long;
      parents = subst AreParents (sym kept) c.join_row.ensures.parents;
      roots = subst (λ (ps : List ℕ). AreRoots ps roots) (sym kept) c.join_row.ensures.roots;
      few = one_row c.args.steps.now c.loop-i.i n c.loop-i.steps c.join_row.new.steps c.loop-i.invariant.few c.join_row.ensures.few;
      counts = omega (arith, c.join_row.ensures.counts, c.loop-i.invariant.counts);
      room = room_kept c.loop-i.near.len n c.join_row.new.near c.loop-i.near.items near_full near_long;
    }
