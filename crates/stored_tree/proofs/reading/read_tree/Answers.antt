use Rattle.std.proofs.Common.{◌≡◌, ◌<◌, ℕ, Some, Ok, sym, ap, subst, ◌∙◌, arith}
use Rattle.std.specs.Prelude.{MatchResult}
use Rattle.std.specs.FinMap as finite
use Rattle.node_refs.specs.declared.listing.Listed.{Listed}
use Rattle.node_refs.proofs.Built.{listed_can_be_built}
use Rattle.node_refs.proofs.Inside.{fails_inside}
use Rattle.node_refs.specs.Faults.{IsInside, first_used}
use Rattle.mtree_node.specs.Walk.{first_failing, CanBeBuilt}
use Rattle.node_walks.specs.Alike.{HaveVectors}
use Rattle.tree_objects.specs.Laws.{ShapesPass}
use Rattle.stored_tree.specs.Reading.{Read, Fails, empty_unless}
use Rattle.stored_tree.proofs.Kept.{vectors_are_kept, passing_is_kept}
use Rattle.stored_tree.proofs.Read.{at_zero, at_no_root, at_root, some_rows, none_held}
use Rattle.stored_tree.proofs.reading.read_tree.Goals as goal

pub returns-then-height-eq0-clause-tree : goal.returns-then-height-eq0-clause-tree
returns-then-height-eq0-clause-tree g c =
    let r = c.args.records.now in
    let width = c.width.ensures.value in
    λ dist alike.
    subst (λ (due : Read). MatchResult c.read_empty.result (λ t. due ≡ Ok t) (λ e. Fails e due))
    (ap (λ (w : ℕ). empty_unless w (first_used c.args.pages.now)) width ∙ at_zero dist r.width c.args.height c.args.root c.args.pages.now r.vectors c.if-height-eq0.true)
    c.read_empty.ensures.tree

pub returns-then-height-eq0-clause-contents : goal.returns-then-height-eq0-clause-contents
returns-then-height-eq0-clause-contents g c =
    none_held c.read_empty.result c.width.result c.args.records.now.vectors (c.requires.empty.0 c.if-height-eq0.true) c.read_empty.ensures.empty

pub returns-then-not-is_root-clause-tree : goal.returns-then-not-is_root-clause-tree
returns-then-not-is_root-clause-tree g c =
    let r = c.args.records.now in
    let high : 0 < c.args.height = omega arith in
    λ dist alike. at_no_root dist r.width c.args.height c.args.root c.args.pages.now r.vectors high (sym c.if-not-is_root.ensures)

pub build_listed-requires-clause-built : goal.build_listed-requires-clause-built
build_listed-requires-clause-built g c =
    let r = c.args.records.now in
    let most = g.M.Metric.most r.width in
    let high : 0 < c.args.height = omega arith in
    subst (λ (l : Listed). CanBeBuilt r.width most c.args.height l.shapes r.vectors) (sym c.in_ok-nodes.ensures)
    (listed_can_be_built r.width most c.args.pages.now c.args.height c.args.root r.vectors c.requires.slots c.requires.objects (sym c.if-not-is_root.ensures) c.requires.room high c.requires.low (some_rows c.args.height (finite.len r.vectors) high c.requires.empty))

pub build_listed-requires-clause-inside : goal.build_listed-requires-clause-inside
build_listed-requires-clause-inside g c =
    let r = c.args.records.now in
    let high : 0 < c.args.height = omega arith in
    λ p.
    subst (λ (l : Listed). first_failing g.M.Metric.dist c.args.height l.shapes r.vectors ≡ Some p → IsInside l p) (sym c.in_ok-nodes.ensures)
    (fails_inside g.M.Metric.dist c.args.pages.now c.args.height c.args.root r.vectors p high)

pub build_listed-requires-clause-vectors : goal.build_listed-requires-clause-vectors
build_listed-requires-clause-vectors g c =
    let r = c.args.records.now in
    subst (λ (l : Listed). HaveVectors r.width l.shapes r.vectors) (sym c.in_ok-nodes.ensures)
    (record { objects = vectors_are_kept r.width c.args.pages.now c.args.height c.args.root c.requires.vectors; records = c.requires.records })

pub returns-clause-tree : goal.returns-clause-tree
returns-clause-tree g c =
    let r = c.args.records.now in
    let high : 0 < c.args.height = omega arith in
    λ dist alike.
    subst (λ (due : Read). MatchResult c.build_listed.result (λ t. due ≡ Ok t) (λ e. Fails e due))
    (at_root dist r.width c.args.height c.args.root c.args.pages.now r.vectors high c.in_ok-nodes.nodes (sym c.if-not-is_root.ensures) c.in_ok-nodes.ensures)
    (c.build_listed.ensures.tree dist alike)

pub returns-clause-passes : goal.returns-clause-passes
returns-clause-passes g c =
    let r = c.args.records.now in
    λ test pages rows.
    c.build_listed.ensures.passes test
    (subst (λ (l : Listed). ShapesPass test l.shapes) (sym c.in_ok-nodes.ensures) (passing_is_kept test c.args.pages.now c.args.height c.args.root pages)) rows
