use Rattle.std.proofs.Common.{◌≡◌, ◌<◌, ◌≤◌, length, drop, Some, Err, refl, sym, ap, subst, ◌∙◌, arith}
use Rattle.std.specs.List.{AllByRecursion}
use Rattle.std.specs.FinMap as finite
use Rattle.vec_record.specs.Held.{Held, HaveWidth}
use Rattle.mtree_node.specs.declared.node.Node.{Node}
use Rattle.mtree_node.specs.declared.shape.BadPlace.{BadPlace}
use Rattle.mtree_node.specs.declared.shape.BadWhat.TheVariants as what
use Rattle.mtree_node.specs.declared.shape.BuildFault.TheVariants.{Bad}
use Rattle.mtree_node.specs.Walk.{bad_place, HasObjectsIn, IsTreeOf}
use Rattle.mtree_node.specs.Progress.{standing, HasVectorsIn}
use Rattle.mtree_node.proofs.Rows.{error_is, no_rows}
use Rattle.mtree_node.proofs.Whole.{whole_tree}
use Rattle.mtree_node.proofs.Root.{root_built, root_failed, root_fails, root_missing, root_unreached, only_root, no_root, root_counted}
use Rattle.mtree_node.proofs.building.build.Goals as goal

pub build_node-requires-clause-objects : goal.build_node-requires-clause-objects
build_node-requires-clause-objects g c =
    let most = g.M.Metric.most c.args.records.now.width in
    let objects = subst (AllByRecursion (HasObjectsIn c.args.records.now.width most)) (sym c.as_slice-shapes.ensures) c.requires.objects in
    (most, subst (λ (h : Held). AllByRecursion (HasVectorsIn h.width most) c.as_slice-shapes.result.now) (sym c.in_ok-copy.ensures.same) (c.know_objects.ensures c.args.records.now.width most objects))

pub build_node-requires-clause-vectors : goal.build_node-requires-clause-vectors
build_node-requires-clause-vectors g c =
    subst (λ (h : Held). HaveWidth h.width h.vectors) (sym c.in_ok-copy.ensures.same) c.in_ok-copy.ensures.vectors

pub returns-in_err-root-clause-no_tree : goal.returns-in_err-root-clause-no_tree
returns-in_err-root-clause-no_tree g c =
    let dist = g.M.Metric.dist in
    let width = c.args.records.now.width in
    let shapes = c.args.shapes.now in
    let rows = c.args.records.now.vectors in
    let some : 0 < c.args.height = omega arith in
    λ (p : BadPlace) is.
    let error = ap Err (sym (error_is _ c.from_residual-in_err-root.result (Bad p) c.from_residual-in_err-root.ensures.1 is)) in
    let fails = root_failed dist c.args.height c.as_slice-shapes.result.now shapes c.in_ok-copy.field-0 c.args.records.now p c.as_slice-shapes.ensures c.in_ok-copy.ensures.same (c.in_err-root.ensures.bad p error) in
    no_root dist c.args.height shapes rows some p width (g.M.Metric.most width) (root_fails dist c.args.height shapes rows some p fails)

pub returns-then-len-gt0-clause-no_tree : goal.returns-then-len-gt0-clause-no_tree
returns-then-len-gt0-clause-no_tree g c =
    let dist = g.M.Metric.dist in
    let width = c.args.records.now.width in
    let shapes = c.args.shapes.now in
    let rows = c.args.records.now.vectors in
    let some : 0 < c.args.height = omega arith in
    let q = c.build_node.new.progress in
    let walked = root_built dist c.args.height c.as_slice-shapes.result.now shapes c.in_ok-copy.field-0 c.args.records.now q c.in_ok-root.root c.as_slice-shapes.ensures c.in_ok-copy.ensures.same c.in_ok-root.ensures.ok in
    λ (p : BadPlace) is.
    let left : 0 < finite.len q.left.vectors = omega arith in
    let same : bad_place 0 0 what.Missing ≡ p = cc in
    let fails = root_missing dist c.args.height shapes rows some c.in_ok-root.root (standing (drop q.next shapes) q) walked left ∙ ap Some same in
    no_root dist c.args.height shapes rows some p width (g.M.Metric.most width) fails

pub returns-then-progress-shapes-clause-bad : goal.returns-then-progress-shapes-clause-bad
returns-then-progress-shapes-clause-bad g c =
    let dist = g.M.Metric.dist in
    let shapes = c.args.shapes.now in
    let rows = c.args.records.now.vectors in
    let some : 0 < c.args.height = omega arith in
    let q = c.build_node.new.progress in
    let walked = root_built dist c.args.height c.as_slice-shapes.result.now shapes c.in_ok-copy.field-0 c.args.records.now q c.in_ok-root.root c.as_slice-shapes.ensures c.in_ok-copy.ensures.same c.in_ok-root.ensures.ok in
    λ (p : BadPlace) is.
    let none : finite.len q.left.vectors ≡ 0 = omega arith in
    let more : q.next < length shapes = omega (arith, ap length c.as_slice-shapes.ensures) in
    let same : bad_place q.next 0 what.Fill ≡ p = cc in
    let fails = root_unreached dist c.args.height shapes rows some c.in_ok-root.root (standing (drop q.next shapes) q) walked q.next none refl more ∙ ap Some same in
    fails

pub returns-then-progress-shapes-clause-no_tree : goal.returns-then-progress-shapes-clause-no_tree
returns-then-progress-shapes-clause-no_tree g c =
    let dist = g.M.Metric.dist in
    let width = c.args.records.now.width in
    let shapes = c.args.shapes.now in
    let rows = c.args.records.now.vectors in
    let some : 0 < c.args.height = omega arith in
    let q = c.build_node.new.progress in
    let walked = root_built dist c.args.height c.as_slice-shapes.result.now shapes c.in_ok-copy.field-0 c.args.records.now q c.in_ok-root.root c.as_slice-shapes.ensures c.in_ok-copy.ensures.same c.in_ok-root.ensures.ok in
    λ (p : BadPlace) is.
    let none : finite.len q.left.vectors ≡ 0 = omega arith in
    let more : q.next < length shapes = omega (arith, ap length c.as_slice-shapes.ensures) in
    let same : bad_place q.next 0 what.Fill ≡ p = cc in
    let fails = root_unreached dist c.args.height shapes rows some c.in_ok-root.root (standing (drop q.next shapes) q) walked q.next none refl more ∙ ap Some same in
    no_root dist c.args.height shapes rows some p width (g.M.Metric.most width) fails

pub returns-in_err-root-clause-counted : goal.returns-in_err-root-clause-counted
returns-in_err-root-clause-counted g c =
    root_counted c.args.height c.in_ok-copy.field-0 c.args.records.now (finite.len c.build_node.new.progress.left.vectors) c.args.steps.now c.build_node.new.steps c.in_ok-copy.ensures.same c.requires.low (omega arith) c.requires.no_records c.build_node.ensures.part

pub returns-then-len-gt0-clause-counted : goal.returns-then-len-gt0-clause-counted
returns-then-len-gt0-clause-counted g c =
    root_counted c.args.height c.in_ok-copy.field-0 c.args.records.now (finite.len c.build_node.new.progress.left.vectors) c.args.steps.now c.build_node.new.steps c.in_ok-copy.ensures.same c.requires.low (omega arith) c.requires.no_records c.build_node.ensures.part

pub returns-then-progress-shapes-clause-counted : goal.returns-then-progress-shapes-clause-counted
returns-then-progress-shapes-clause-counted g c =
    root_counted c.args.height c.in_ok-copy.field-0 c.args.records.now (finite.len c.build_node.new.progress.left.vectors) c.args.steps.now c.build_node.new.steps c.in_ok-copy.ensures.same c.requires.low (omega arith) c.requires.no_records c.build_node.ensures.part

pub returns-in_err-new-clause-counted : goal.returns-in_err-new-clause-counted
returns-in_err-new-clause-counted g c =
    root_counted c.args.height c.in_ok-copy.field-0 c.args.records.now (finite.len c.build_node.new.progress.left.vectors) c.args.steps.now c.build_node.new.steps c.in_ok-copy.ensures.same c.requires.low (omega arith) c.requires.no_records c.build_node.ensures.part

pub returns-clause-counted : goal.returns-clause-counted
returns-clause-counted g c =
    root_counted c.args.height c.in_ok-copy.field-0 c.args.records.now (finite.len c.build_node.new.progress.left.vectors) c.args.steps.now c.build_node.new.steps c.in_ok-copy.ensures.same c.requires.low (omega arith) c.requires.no_records c.build_node.ensures.part

pub returns-clause-tree : goal.returns-clause-tree
returns-clause-tree g c =
    let dist = g.M.Metric.dist in
    let width = c.args.records.now.width in
    let shapes = c.args.shapes.now in
    let rows = c.args.records.now.vectors in
    let some : 0 < c.args.height = omega arith in
    let q = c.build_node.new.progress in
    let walked = root_built dist c.args.height c.as_slice-shapes.result.now shapes c.in_ok-copy.field-0 c.args.records.now q c.in_ok-root.root c.as_slice-shapes.ensures c.in_ok-copy.ensures.same c.in_ok-root.ensures.ok in
    let most = g.M.Metric.most width in
    let objects = subst (AllByRecursion (HasObjectsIn width most)) (sym c.as_slice-shapes.ensures) c.requires.objects in
    let known = subst (AllByRecursion (HasVectorsIn width most)) c.as_slice-shapes.ensures (c.know_objects.ensures width most objects) in
    let done : length shapes ≤ q.next = omega (arith, ap length c.as_slice-shapes.ensures) in
    subst (λ (n : Node). IsTreeOf dist width most c.args.height shapes rows (Some n)) (sym c.in_ok-new.ensures)
    (whole_tree dist width most c.args.height shapes rows c.in_ok-root.root (standing (drop q.next shapes) q) c.in_ok-copy.ensures.vectors known (c.requires.root some) walked (omega arith) (no_rows shapes q.next done))

pub returns-clause-only : goal.returns-clause-only
returns-clause-only g c =
    let dist = g.M.Metric.dist in
    let width = c.args.records.now.width in
    let shapes = c.args.shapes.now in
    let rows = c.args.records.now.vectors in
    let some : 0 < c.args.height = omega arith in
    let q = c.build_node.new.progress in
    let walked = root_built dist c.args.height c.as_slice-shapes.result.now shapes c.in_ok-copy.field-0 c.args.records.now q c.in_ok-root.root c.as_slice-shapes.ensures c.in_ok-copy.ensures.same c.in_ok-root.ensures.ok in
    λ other tree. ap Some c.in_ok-new.ensures ∙ only_root dist c.args.height shapes rows some c.in_ok-root.root (standing (drop q.next shapes) q) walked width (g.M.Metric.most width) other tree
