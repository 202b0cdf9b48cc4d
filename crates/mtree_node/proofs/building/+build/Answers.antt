use Rattle.std.proofs.Common.{rules, ◌≡◌, ℕ, ◌+◌, ◌-◌, true, false, List, length, drop, Some, Err, sym, ap, subst, ◌∙◌, arith}
use Rattle.std.specs.List.{AllByRecursion}
use Rattle.std.specs.Option.{option_copied}
use Rattle.vec_record.specs.Held.{HaveWidth}
use Rattle.vec_record.specs.Vectors.{IsWidth}
use Rattle.mtree_node.specs.declared.node.Node.TheVariants as node
use Rattle.mtree_node.specs.declared.shape.BadPlace.{BadPlace}
use Rattle.mtree_node.specs.declared.shape.BadWhat.TheVariants as what
use Rattle.mtree_node.specs.declared.shape.BuildFault.TheVariants.{Bad}
use Rattle.mtree_node.specs.Preorder.{LeafRow, InnerRow}
use Rattle.mtree_node.specs.Tree.{leaves, IsNode}
use Rattle.mtree_node.specs.Walk.{Builds, Fails, go_on, walk, walk_all, walk_leaf_row, walk_inner_row, bad_place, is_filled, is_of_level}
use Rattle.mtree_node.specs.Progress.{standing, ahead, IsOver, IsInnerRow, HasVectorsIn}
use Rattle.mtree_node.proofs.Sound.{sound}
use Rattle.mtree_node.proofs.Rows.{loop_builds, loop_fails, error_is}
use Rattle.mtree_node.proofs.Reach.{all_at}
use Rattle.mtree_node.proofs.Bounds.{whole_more, part_more}
use Rattle.mtree_node.proofs.Steps.{all_drop, leaf_here, inner_here, inner_unfilled, child_width, child_entry}
use Rattle.mtree_node.proofs.building.+build.Goals as goal

pub build_inner-returns-in_err-entry-clause-part : goal.build_inner-returns-in_err-entry-clause-part
build_inner-returns-in_err-entry-clause-part g t c =
    part_more _ _ _ _ _ _ _ c.loop-i.invariant.counted c.build_inner_entry.ensures.fewer c.build_inner_entry.ensures.part

pub build_inner-returns-in_err-push-clause-part : goal.build_inner-returns-in_err-push-clause-part
build_inner-returns-in_err-push-clause-part g t c =
    part_more _ _ _ _ _ _ _ c.loop-i.invariant.counted c.build_inner_entry.ensures.fewer c.build_inner_entry.ensures.part

pub build_inner-build_inner_entry-requires : goal.build_inner-build_inner_entry-requires
build_inner-build_inner_entry-requires g t c κs within =
    let shapes = c.args.shapes.now in
    let greatest = c.requires.objects.0 in
    let same = sym c.loop-i.invariant.width in
    let rows : AllByRecursion (IsInnerRow c.loop-i.progress.left.width greatest) c.args.rows.now = subst (λ (w : ℕ). AllByRecursion (IsInnerRow w greatest) c.args.rows.now) same c.requires.objects.2 in
    let row = all_at (IsInnerRow c.loop-i.progress.left.width greatest) c.args.rows.now c.loop-i.i c.index-rows-i.result c.loop-i-test.true c.index-rows-i.is rows in
    let objects = subst (λ (w : ℕ). AllByRecursion (HasVectorsIn w greatest) shapes) same c.requires.objects.1 in
    let over = subst (λ (w : ℕ). IsOver w (option_copied c.args.over)) same c.requires.over in
    (omega arith, (search rules, (search rules, (c.requires.few, ((greatest, objects, row), (c.requires.level, (subst IsWidth same c.requires.width, (c.loop-i.invariant.vectors, (over, c.loop-i.invariant.next)))))))))

pub build_inner-returns-in_err-entry-clause-bad : goal.build_inner-returns-in_err-entry-clause-bad
build_inner-returns-in_err-entry-clause-bad g t c =
    let dist = g.M.Metric.dist in
    let level = c.args.level in
    let f = walk_inner_row dist level (λ object t. walk dist level (Some object) t) (leaves level) c.args.place (option_copied c.args.over) in
    let rows = c.args.rows.now in
    let begun = standing (ahead c.args.shapes.now c.args.progress.now) c.args.progress.now in
    let from = standing (ahead c.args.shapes.now c.loop-i.progress) c.loop-i.progress in
    let i = c.loop-i.i in
    λ (p : BadPlace) is. loop_fails f rows i c.loop-i.entries (walk_all f 0 rows begun) from c.loop-i.invariant.walked c.index-rows-i.result p c.loop-i-test.true
    (ap (λ (row : InnerRow). f i row from) (sym c.index-rows-i.is) ∙ c.in_err-entry.ensures.bad p (ap Err (sym (error_is _ c.from_residual.result (Bad p) c.from_residual.ensures.1 is))))

pub build_inner-loop-i-preserved : goal.build_inner-loop-i-preserved
build_inner-loop-i-preserved g t c =
    let dist = g.M.Metric.dist in
    let level = c.args.level in
    let f = walk_inner_row dist level (λ object t. walk dist level (Some object) t) (leaves level) c.args.place (option_copied c.args.over) in
    let rows = c.args.rows.now in
    let begun = standing (ahead c.args.shapes.now c.args.progress.now) c.args.progress.now in
    let from = standing (ahead c.args.shapes.now c.loop-i.progress) c.loop-i.progress in
    let to = standing (ahead c.args.shapes.now c.build_inner_entry.new.progress) c.build_inner_entry.new.progress in
    let r = c.index-rows-i.result in
    let i = c.loop-i.i in
    record {
      walked = loop_builds f rows i c.loop-i.entries (walk_all f 0 rows begun) from c.loop-i.invariant.walked r c.push.new.self c.in_ok-entry.entry to c.loop-i-test.true (ap (λ (row : InnerRow). f i row from) (sym c.index-rows-i.is) ∙ c.in_ok-entry.ensures.ok) c.in_ok-push.ensures.ok;
      width = c.build_inner_entry.ensures.width ∙ c.loop-i.invariant.width;
      next = c.build_inner_entry.ensures.next;
      vectors = c.in_ok-entry.ensures.vectors;
      counted = whole_more _ _ _ _ _ _ _ c.loop-i.invariant.counted c.in_ok-entry.ensures.named c.in_ok-entry.ensures.whole;
    }

pub build_inner_entry-reaches-requires-clause-node : goal.build_inner_entry-reaches-requires-clause-node
build_inner_entry-reaches-requires-clause-node g t c =
    let dist = g.M.Metric.dist in
    let p = c.args.progress.now in
    let shapes = c.args.shapes.now in
    let greatest = c.requires.objects.0 in
    let object = c.args.row.now.3 in
    let of_level : is_of_level c.args.level (ahead shapes p) ≡ true = cc in
    let to = standing (ahead shapes c.build_node.new.progress) c.build_node.new.progress in
    let child = sound dist p.left.width greatest c.args.level (Some object) (standing (ahead shapes p) p) c.in_ok-node.node to c.requires.vectors (all_drop (HasVectorsIn p.left.width greatest) shapes p.next c.requires.objects.1) of_level c.in_ok-node.ensures.ok in
    (greatest, Some object, subst (λ (w : ℕ). IsNode dist w greatest c.args.level (Some object) c.in_ok-node.node) (sym c.requires.objects.2.0.len) child.node)

pub build_inner_entry-returns-then-not-reaches-clause-part : goal.build_inner_entry-returns-then-not-reaches-clause-part
build_inner_entry-returns-then-not-reaches-clause-part g t c =
    let of_level : is_of_level c.args.level (ahead c.args.shapes.now c.args.progress.now) ≡ true = cc in
    (child_entry g.M.Metric.dist c.args.progress.now.left.width c.requires.objects.0 c.args.level c.args.row.now.3 c.args.shapes.now c.args.progress.now c.build_node.new.progress c.in_ok-node.node c.requires.vectors c.requires.objects.1 of_level c.in_ok-node.ensures.ok
    c.args.steps.now c.parent_distance.new.steps c.build_node.new.steps c.reaches.new.steps c.requires.level.0 c.parent_distance.ensures.counted c.in_ok-node.ensures.whole c.reaches.ensures.counted).part

pub build_inner_entry-returns-in_err-copy-clause-part : goal.build_inner_entry-returns-in_err-copy-clause-part
build_inner_entry-returns-in_err-copy-clause-part g t c =
    let of_level : is_of_level c.args.level (ahead c.args.shapes.now c.args.progress.now) ≡ true = cc in
    (child_entry g.M.Metric.dist c.args.progress.now.left.width c.requires.objects.0 c.args.level c.args.row.now.3 c.args.shapes.now c.args.progress.now c.build_node.new.progress c.in_ok-node.node c.requires.vectors c.requires.objects.1 of_level c.in_ok-node.ensures.ok
    c.args.steps.now c.parent_distance.new.steps c.build_node.new.steps c.reaches.new.steps c.requires.level.0 c.parent_distance.ensures.counted c.in_ok-node.ensures.whole c.reaches.ensures.counted).part

pub build_inner_entry-returns-in_err-new-clause-part : goal.build_inner_entry-returns-in_err-new-clause-part
build_inner_entry-returns-in_err-new-clause-part g t c =
    let of_level : is_of_level c.args.level (ahead c.args.shapes.now c.args.progress.now) ≡ true = cc in
    (child_entry g.M.Metric.dist c.args.progress.now.left.width c.requires.objects.0 c.args.level c.args.row.now.3 c.args.shapes.now c.args.progress.now c.build_node.new.progress c.in_ok-node.node c.requires.vectors c.requires.objects.1 of_level c.in_ok-node.ensures.ok
    c.args.steps.now c.parent_distance.new.steps c.build_node.new.steps c.reaches.new.steps c.requires.level.0 c.parent_distance.ensures.counted c.in_ok-node.ensures.whole c.reaches.ensures.counted).part

pub build_inner_entry-returns-clause-named : goal.build_inner_entry-returns-clause-named
build_inner_entry-returns-clause-named g t c =
    let of_level : is_of_level c.args.level (ahead c.args.shapes.now c.args.progress.now) ≡ true = cc in
    (child_entry g.M.Metric.dist c.args.progress.now.left.width c.requires.objects.0 c.args.level c.args.row.now.3 c.args.shapes.now c.args.progress.now c.build_node.new.progress c.in_ok-node.node c.requires.vectors c.requires.objects.1 of_level c.in_ok-node.ensures.ok
    c.args.steps.now c.parent_distance.new.steps c.build_node.new.steps c.reaches.new.steps c.requires.level.0 c.parent_distance.ensures.counted c.in_ok-node.ensures.whole c.reaches.ensures.counted).named

pub build_inner_entry-returns-clause-whole : goal.build_inner_entry-returns-clause-whole
build_inner_entry-returns-clause-whole g t c =
    let of_level : is_of_level c.args.level (ahead c.args.shapes.now c.args.progress.now) ≡ true = cc in
    (child_entry g.M.Metric.dist c.args.progress.now.left.width c.requires.objects.0 c.args.level c.args.row.now.3 c.args.shapes.now c.args.progress.now c.build_node.new.progress c.in_ok-node.node c.requires.vectors c.requires.objects.1 of_level c.in_ok-node.ensures.ok
    c.args.steps.now c.parent_distance.new.steps c.build_node.new.steps c.reaches.new.steps c.requires.level.0 c.parent_distance.ensures.counted c.in_ok-node.ensures.whole c.reaches.ensures.counted).whole

pub build_inner_entry-returns-clause-part : goal.build_inner_entry-returns-clause-part
build_inner_entry-returns-clause-part g t c =
    let of_level : is_of_level c.args.level (ahead c.args.shapes.now c.args.progress.now) ≡ true = cc in
    (child_entry g.M.Metric.dist c.args.progress.now.left.width c.requires.objects.0 c.args.level c.args.row.now.3 c.args.shapes.now c.args.progress.now c.build_node.new.progress c.in_ok-node.node c.requires.vectors c.requires.objects.1 of_level c.in_ok-node.ensures.ok
    c.args.steps.now c.parent_distance.new.steps c.build_node.new.steps c.reaches.new.steps c.requires.level.0 c.parent_distance.ensures.counted c.in_ok-node.ensures.whole c.reaches.ensures.counted).part

pub build_inner_entry-returns-clause-vectors : goal.build_inner_entry-returns-clause-vectors
build_inner_entry-returns-clause-vectors g t c =
    let of_level : is_of_level c.args.level (ahead c.args.shapes.now c.args.progress.now) ≡ true = cc in
    let widths = child_width g.M.Metric.dist c.args.progress.now.left.width c.requires.objects.0 c.args.level c.args.row.now.3 c.args.shapes.now c.args.progress.now c.build_node.new.progress c.in_ok-node.node c.requires.vectors c.requires.objects.1 of_level c.in_ok-node.ensures.ok in
    subst (λ (w : ℕ). HaveWidth w c.build_node.new.progress.left.vectors) (sym c.build_node.ensures.width) widths

pub build_node-returns-in_err-entries-in-Leaf-clause-bad :
    goal.build_node-returns-in_err-entries-in-Leaf-clause-bad
build_node-returns-in_err-entries-in-Leaf-clause-bad g t c =
    let p = c.args.progress.now in
    let shapes = c.args.shapes.now in
    let over = option_copied c.args.over in
    let filled : is_filled over 1 (length c.in-Leaf.rows) ≡ true = cc in
    let here = leaf_here g.M.Metric.dist c.args.level over shapes p.next p.left.vectors c.index-shapes-place.result c.in-Leaf.tag c.in-Leaf.rows c.requires.level.0 c.requires.shape c.index-shapes-place.is c.in-Leaf.is filled in
    let rest = drop (p.next + 1) shapes in
    let rows = ap (λ (rs : List LeafRow). walk_all (walk_leaf_row g.M.Metric.dist p.next over) 0 rs (record { next = p.next + 1; rest = rest; left = p.left.vectors })) (sym c.as_slice.ensures) in
    λ (f : BadPlace) is. here ∙ ap (λ w. go_on w (λ es t. Builds (node.Leaf c.in-Leaf.tag es) t)) (rows ∙ c.in_err-entries-in-Leaf.ensures.bad f (ap Err (sym (error_is _ c.from_residual.result (Bad f) c.from_residual.ensures.1 is))) rest)

pub build_node-returns-then-not-is_filled-2-clause-bad :
    goal.build_node-returns-then-not-is_filled-2-clause-bad
build_node-returns-then-not-is_filled-2-clause-bad g t c =
    let p = c.args.progress.now in
    let over = option_copied c.args.over in
    let unfilled : is_filled over 2 (length c.in-Inner.rows) ≡ false = cc in
    let here = inner_unfilled g.M.Metric.dist c.args.level over c.args.shapes.now p.next p.left.vectors c.index-shapes-place.result c.in-Inner.tag c.in-Inner.rows c.requires.level.0 c.requires.shape c.index-shapes-place.is c.in-Inner.is unfilled in
    λ (f : BadPlace) is. here ∙ (let same : bad_place p.next 0 what.Fill ≡ f = cc in ap Fails same)

pub build_node-returns-in_err-entries-in-Inner-clause-bad :
    goal.build_node-returns-in_err-entries-in-Inner-clause-bad
build_node-returns-in_err-entries-in-Inner-clause-bad g t c =
    let dist = g.M.Metric.dist in
    let p = c.args.progress.now in
    let shapes = c.args.shapes.now in
    let over = option_copied c.args.over in
    let k = c.args.level - 1 in
    let filled : is_filled over 2 (length c.in-Inner.rows) ≡ true = cc in
    let here = inner_here dist c.args.level over shapes p.next p.left.vectors c.index-shapes-place.result c.in-Inner.tag c.in-Inner.rows c.requires.level.0 c.requires.shape c.index-shapes-place.is c.in-Inner.is filled in
    let rows = ap (λ (rs : List InnerRow). walk_all (walk_inner_row dist k (λ object t. walk dist k (Some object) t) (leaves k) p.next over) 0 rs (record { next = p.next + 1; rest = drop (p.next + 1) shapes; left = p.left.vectors })) (sym c.as_slice-rows.ensures) in
    λ (f : BadPlace) is. here ∙ ap (λ w. go_on w (λ es t. Builds (node.Inner c.in-Inner.tag es) t)) (rows ∙ c.in_err-entries-in-Inner.ensures.bad f (ap Err (sym (error_is _ c.from_residual-in_err-entries-in-Inner.result (Bad f) c.from_residual-in_err-entries-in-Inner.ensures.1 is))))

pub build_node-returns-in_ok-entries-in-Leaf-clause-ok :
    goal.build_node-returns-in_ok-entries-in-Leaf-clause-ok
build_node-returns-in_ok-entries-in-Leaf-clause-ok g t c =
    let p = c.args.progress.now in
    let shapes = c.args.shapes.now in
    let over = option_copied c.args.over in
    let filled : is_filled over 1 (length c.in-Leaf.rows) ≡ true = cc in
    let here = leaf_here g.M.Metric.dist c.args.level over shapes p.next p.left.vectors c.index-shapes-place.result c.in-Leaf.tag c.in-Leaf.rows c.requires.level.0 c.requires.shape c.index-shapes-place.is c.in-Leaf.is filled in
    let rest = drop (p.next + 1) shapes in
    let rows = ap (λ (rs : List LeafRow). walk_all (walk_leaf_row g.M.Metric.dist p.next over) 0 rs (record { next = p.next + 1; rest = rest; left = p.left.vectors })) (sym c.as_slice.ensures) in
    let q = c.build_leaf.new.progress in
    here ∙ (ap (λ w. go_on w (λ es t. Builds (node.Leaf c.in-Leaf.tag es) t)) (rows ∙ c.in_ok-entries-in-Leaf.ensures.ok rest)
    ∙ ap (λ (n : ℕ). Builds (node.Leaf c.in-Leaf.tag c.in_ok-entries-in-Leaf.entries) (standing (drop n shapes) q)) (sym c.build_leaf.ensures.next))

pub build_node-returns-in_ok-entries-in-Inner-clause-ok :
    goal.build_node-returns-in_ok-entries-in-Inner-clause-ok
build_node-returns-in_ok-entries-in-Inner-clause-ok g t c =
    let dist = g.M.Metric.dist in
    let p = c.args.progress.now in
    let shapes = c.args.shapes.now in
    let over = option_copied c.args.over in
    let k = c.args.level - 1 in
    let filled : is_filled over 2 (length c.in-Inner.rows) ≡ true = cc in
    let here = inner_here dist c.args.level over shapes p.next p.left.vectors c.index-shapes-place.result c.in-Inner.tag c.in-Inner.rows c.requires.level.0 c.requires.shape c.index-shapes-place.is c.in-Inner.is filled in
    let rows = ap (λ (rs : List InnerRow). walk_all (walk_inner_row dist k (λ object t. walk dist k (Some object) t) (leaves k) p.next over) 0 rs (record { next = p.next + 1; rest = drop (p.next + 1) shapes; left = p.left.vectors })) (sym c.as_slice-rows.ensures) in
    here ∙ ap (λ w. go_on w (λ es t. Builds (node.Inner c.in-Inner.tag es) t)) (rows ∙ c.in_ok-entries-in-Inner.ensures.ok)
