use Rattle.std.proofs.Common.{◌≡◌, ◌<◌, ◌≤◌, suc, drop, true, length, Some, sym, ap, sum_by, ◌∙◌, arith, add-one}
use Rattle.std.proofs.lemmas.List.Sums.{sum_by-cons}
use Rattle.mtree_node.specs.Cost.{leaf_cost}
use Rattle.mtree_node.proofs.Columns.{entry_at, next_at}
use Rattle.mtree_index.specs.Removal.{is_pair, without_first}
use Rattle.mtree_index.proofs.Leaves.{get_at}
use Rattle.mtree_index.proofs.Walks.{fail_more, without_there, without_none}
use Rattle.mtree_index.proofs.removal.remove_from_leaf.Goals as goal

pub loop-i-preserved : goal.loop-i-preserved
loop-i-preserved g c =
    let es = c.loop-i.entries in
    let i = c.loop-i.i in
    let x = entry_at es i in
    let price = leaf_cost g.M.Metric.dist c.args.vector.now 0 c.args.to_object in
    let within : i < length es = omega (arith, ap length c.loop-i.invariant.0) in
    let at = get_at es i within in
    rw add-one (
      c.loop-i.invariant.0,
      λ over k. fail_more (is_pair g.M.Metric.dist c.args.vector.now c.args.number over) es i x at (sym (c.is_pair.ensures.value x at over k) ∙ c.if-is_pair.false) (c.loop-i.invariant.1 over k),
      omega (arith, c.loop-i.invariant.2, c.is_pair.ensures.counted x at, ap (sum_by price) (next_at es i within), sum_by-cons price x (drop (suc i) es)),
    )

pub returns-then-is_pair-clause-is : goal.returns-then-is_pair-clause-is
returns-then-is_pair-clause-is g c = λ over k.
    let test = is_pair g.M.Metric.dist c.args.vector.now c.args.number over in
    let es = c.loop-i.entries in
    let i = c.loop-i.i in
    let x = entry_at es i in
    let within : i < length es = omega (arith, ap length c.loop-i.invariant.0) in
    let at = get_at es i within in
    let yes : test x ≡ true = sym (c.is_pair.ensures.value x at over k) ∙ c.if-is_pair.true in
    ap Some c.remove.ensures ∙ (sym (without_there test es i x at yes (c.loop-i.invariant.1 over k)) ∙ ap (without_first test) c.loop-i.invariant.0)

pub returns-then-is_pair-clause-counted : goal.returns-then-is_pair-clause-counted
returns-then-is_pair-clause-counted g c =
    let es = c.loop-i.entries in
    let i = c.loop-i.i in
    let x = entry_at es i in
    let price = leaf_cost g.M.Metric.dist c.args.vector.now 0 c.args.to_object in
    let within : i < length es = omega (arith, ap length c.loop-i.invariant.0) in
    omega (arith, c.loop-i.invariant.2, c.is_pair.ensures.counted x (get_at es i within), ap (sum_by price) (next_at es i within), sum_by-cons price x (drop (suc i) es), ap (sum_by price) c.loop-i.invariant.0)

pub returns-clause-is : goal.returns-clause-is
returns-clause-is g c = λ over k.
    let test = is_pair g.M.Metric.dist c.args.vector.now c.args.number over in
    let es = c.loop-i.entries in
    let over_all : length es ≤ c.loop-i.i = omega (arith, ap length c.loop-i.invariant.0) in
    sym (without_none test es c.loop-i.i over_all (c.loop-i.invariant.1 over k)) ∙ ap (without_first test) c.loop-i.invariant.0
