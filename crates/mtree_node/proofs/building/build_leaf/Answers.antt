use Rattle.std.proofs.Common.{◌≡◌, ℕ, List, [], ◌∷◌, ◌++◌, sym, ap, subst, ◌∙◌, arith, Err}
use Rattle.mtree_node.specs.declared.shape.BuildFault.TheVariants.{Bad}
use Rattle.std.specs.Option.{option_copied}
use Rattle.vec_record.specs.Held.{HaveWidth}
use Rattle.mtree_node.specs.Walk.{walk_all, walk_leaf_row}
use Rattle.mtree_node.specs.Lists.{HaveVectorsOf}
use Rattle.mtree_node.specs.Progress.{standing}
use Rattle.mtree_node.proofs.Columns.{have_more}
use Rattle.mtree_node.proofs.Rows.{loop_builds, loop_fails, loop_ends, error_is}
use Rattle.mtree_node.proofs.building.build_leaf.Goals as goal

pub loop-i-preserved : goal.loop-i-preserved
loop-i-preserved g c =
    let inv = c.loop-i.invariant in
    let over = option_copied c.args.over in
    let e = c.in_ok-entry.entry in
    let pushed : c.push.new.self ≡ c.loop-i.entries ++ e ∷ [] = c.in_ok-push.ensures.ok ∙ ap (λ (v : List ℕ). c.loop-i.entries ++ record { number = e.number; vector = v; parent = e.parent } ∷ []) c.as_slice.ensures.value in (
      c.in_ok-entry.ensures.width ∙ inv.0,
      c.in_ok-entry.ensures.next ∙ inv.1,
      subst (λ (w : ℕ). HaveWidth w c.build_leaf_entry.new.progress.left.vectors) inv.0 c.in_ok-entry.ensures.vectors,
      omega arith,
      omega arith,
      λ rest. loop_builds (walk_leaf_row g.M.Metric.dist c.args.place over) c.args.rows.now c.loop-i.i c.loop-i.entries (walk_all (walk_leaf_row g.M.Metric.dist c.args.place over) 0 c.args.rows.now (standing rest c.args.progress.now))
          (standing rest c.loop-i.progress) (inv.5 rest) (0, 0) c.push.new.self c.in_ok-entry.entry (standing rest c.build_leaf_entry.new.progress) c.loop-i-test.true (c.in_ok-entry.ensures.ok rest) pushed,
      subst (HaveVectorsOf c.args.progress.now.left.width) (sym pushed) (have_more _ c.loop-i.entries (e ∷ []) inv.6 (c.in_ok-entry.ensures.vector ∙ inv.0, tt)),
    )

pub returns-clause-ok : goal.returns-clause-ok
returns-clause-ok g c =
    let over = option_copied c.args.over in
    λ rest. loop_ends (walk_leaf_row g.M.Metric.dist c.args.place over) c.args.rows.now c.loop-i.i c.loop-i.entries (walk_all (walk_leaf_row g.M.Metric.dist c.args.place over) 0 c.args.rows.now (standing rest c.args.progress.now))
    (standing rest c.loop-i.progress) (c.loop-i.invariant.5 rest) c.loop-i-test.false

pub returns-in_err-push-clause-vectors : goal.returns-in_err-push-clause-vectors
returns-in_err-push-clause-vectors g c = subst (λ (w : ℕ). HaveWidth w c.build_leaf_entry.new.progress.left.vectors) c.loop-i.invariant.0 c.in_ok-entry.ensures.vectors

pub returns-in_err-entry-clause-bad : goal.returns-in_err-entry-clause-bad
returns-in_err-entry-clause-bad g c =
    let over = option_copied c.args.over in
    λ p is rest. loop_fails (walk_leaf_row g.M.Metric.dist c.args.place over) c.args.rows.now c.loop-i.i c.loop-i.entries (walk_all (walk_leaf_row g.M.Metric.dist c.args.place over) 0 c.args.rows.now (standing rest c.args.progress.now))
    (standing rest c.loop-i.progress) (c.loop-i.invariant.5 rest) (0, 0) p c.loop-i-test.true (c.in_err-entry.ensures.bad p (ap Err (sym (error_is _ c.from_residual.result (Bad p) c.from_residual.ensures.1 is))) rest)
