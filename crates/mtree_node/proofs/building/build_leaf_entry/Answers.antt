use Rattle.std.proofs.Common.{◌≡◌, Some, sym, ap, subst, ◌∙◌, arith}
use Rattle.std.specs.FinMap as finite
use Rattle.vec_record.specs.Held.{Held, HaveWidth}
use Rattle.mtree_node.proofs.Removed.{removed_width, removed_len, removed_one}
use Rattle.mtree_node.proofs.building.build_leaf_entry.Goals as goal

pub returns-in_default-clause-vectors : goal.returns-in_default-clause-vectors
returns-in_default-clause-vectors g c =
    let left = c.args.progress.now.left in
    subst (λ (h : Held). HaveWidth left.width h.vectors) (sym c.remove.ensures.rest) (removed_width left.width left.vectors c.args.row.now.0 c.requires.vectors)

pub returns-in_default-clause-counted : goal.returns-in_default-clause-counted
returns-in_default-clause-counted g c = omega (arith, ap (λ (h : Held). finite.len h.vectors) c.remove.ensures.rest, removed_len c.args.progress.now.left.vectors c.args.row.now.0)

pub returns-then-parent-parent_distance-clause-vectors :
    goal.returns-then-parent-parent_distance-clause-vectors
returns-then-parent-parent_distance-clause-vectors g c =
    let left = c.args.progress.now.left in
    subst (λ (h : Held). HaveWidth left.width h.vectors) (sym c.remove.ensures.rest) (removed_width left.width left.vectors c.args.row.now.0 c.requires.vectors)

pub returns-then-parent-parent_distance-clause-counted :
    goal.returns-then-parent-parent_distance-clause-counted
returns-then-parent-parent_distance-clause-counted g c =
    let rows = c.args.progress.now.left.vectors in
    let found : finite.get rows c.args.row.now.0 ≡ Some c.in-Some.vector = sym c.remove.ensures.value ∙ c.in-Some.is in
    omega (arith, ap (λ (h : Held). finite.len h.vectors) c.remove.ensures.rest, removed_one rows c.args.row.now.0 c.in-Some.vector found, c.parent_distance.ensures.counted)

pub returns-clause-vectors : goal.returns-clause-vectors
returns-clause-vectors g c =
    let left = c.args.progress.now.left in
    subst (λ (h : Held). HaveWidth left.width h.vectors) (sym c.remove.ensures.rest) (removed_width left.width left.vectors c.args.row.now.0 c.requires.vectors)

pub returns-clause-counted : goal.returns-clause-counted
returns-clause-counted g c =
    let rows = c.args.progress.now.left.vectors in
    let found : finite.get rows c.args.row.now.0 ≡ Some c.in-Some.vector = sym c.remove.ensures.value ∙ c.in-Some.is in
    omega (arith, ap (λ (h : Held). finite.len h.vectors) c.remove.ensures.rest, removed_one rows c.args.row.now.0 c.in-Some.vector found, c.parent_distance.ensures.counted)

pub returns-in_default-clause-fewer : goal.returns-in_default-clause-fewer
returns-in_default-clause-fewer g c = omega (arith, ap (λ (h : Held). finite.len h.vectors) c.remove.ensures.rest, removed_len c.args.progress.now.left.vectors c.args.row.now.0)

pub returns-then-parent-parent_distance-clause-fewer : goal.returns-then-parent-parent_distance-clause-fewer
returns-then-parent-parent_distance-clause-fewer g c = omega (arith, ap (λ (h : Held). finite.len h.vectors) c.remove.ensures.rest, removed_len c.args.progress.now.left.vectors c.args.row.now.0)

pub returns-clause-fewer : goal.returns-clause-fewer
returns-clause-fewer g c = omega (arith, ap (λ (h : Held). finite.len h.vectors) c.remove.ensures.rest, removed_len c.args.progress.now.left.vectors c.args.row.now.0)
