use Rattle.std.proofs.Common.{ℕ, Err, subst, sym, ap, ◌∙◌}
use Rattle.tree_objects.proofs.Shapes.{built_has_all}
use Rattle.node_refs.specs.Faults.{fault_at}
use Rattle.tree_objects.specs.Laws.{Passes}
use Rattle.tree_objects.specs.Objects.{RootHasAll}
use Rattle.stored_tree.proofs.Read.{read_is, fault_is}
use Rattle.stored_tree.proofs.reading.build_listed.Goals as goal

pub returns-in-Ok-clause-tree : goal.returns-in-Ok-clause-tree
returns-in-Ok-clause-tree g c =
    let r = c.args.records.now in
    let k = c.in-Ok.ensures in
    λ dist alike.
    read_is r.width c.args.height c.args.nodes.now g.M.Metric.dist dist alike r.vectors c.requires.vectors (g.M.Metric.most r.width) c.in-Ok.tree c.requires.high k.size k.tree

pub returns-in-Err-Bad-clause-tree : goal.returns-in-Err-Bad-clause-tree
returns-in-Err-Bad-clause-tree g c =
    let r = c.args.records.now in
    let nodes = c.args.nodes.now in
    let place = c.in-Err-Bad.place in
    λ dist alike.
    fault_is r.width c.args.height nodes g.M.Metric.dist dist alike r.vectors c.requires.vectors place c.requires.high (c.in-Err-Bad.ensures.bad place (ap Err c.in-Err-Bad.field-0-is))
    ∙ ap Err (ap (λ (w : ℕ). fault_at w nodes place) (sym c.width.ensures.value) ∙ sym c.place_of-page.ensures)

pub returns-in-Ok-clause-passes : goal.returns-in-Ok-clause-passes
returns-in-Ok-clause-passes g c =
    let r = c.args.records.now in
    let k = c.in-Ok.ensures in
    let t = c.in-Ok.tree in
    λ test shapes rows.
    let root = built_has_all (Passes test) g.M.Metric.dist r.width (g.M.Metric.most r.width) c.args.height c.args.nodes.now.shapes r.vectors t.root k.tree rows shapes in
    subst (λ (h : ℕ). RootHasAll (Passes test) h t.root) (sym k.size.1) root
