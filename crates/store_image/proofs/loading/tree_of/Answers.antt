use Rattle.std.proofs.Common.{◌≡◌, sym, ◌∙◌, ap, subst, replicate}
use Rattle.vec_record.specs.Distance.{distance_of, greatest_of}
use Rattle.vec_record.specs.Limits.{width_of}
use Rattle.vec_record.specs.Spelled.{is_spelled}
use Rattle.std.specs.List.{AllByRecursion}
use Rattle.node_refs.specs.Laws.{PageHasObjectsIn}
use Rattle.stored_tree.specs.Laws.{PageHasVectors, PagePasses}
use Rattle.stored_tree.specs.Reading.{tree_in}
use Rattle.node_walks.specs.Alike.{AreAlike}
use Rattle.page_layout.specs.Heads.{values_of, plain}
use Rattle.store_image.specs.Loading.{in_tree, Fails}
use Rattle.store_image.proofs.LoadFacts.{have_objects, have_vectors, pages_pass, records_pass, zeros, tree_at}
use Rattle.store_image.proofs.loading.tree_of.Goals as goal

pub read_tree-tree-requires-clause-objects : goal.read_tree-tree-requires-clause-objects
read_tree-tree-requires-clause-objects g c =
    let v = values_of c.args.head.now.params in
    let w = c.args.parts.now.records.width in
    let zero = replicate w 0 in
    let most : g.M.Metric.most w ≡ greatest_of v.metric (width_of v.metric v.dim) =
    (g.met.M.Metric.defined w zero zero c.width.ensures.width (zeros w) (zeros w)).1 ∙ ap (λ k. greatest_of k w) (sym c.requires.kind) ∙ ap (greatest_of v.metric) c.requires.parts.width in
    subst (AllByRecursion (PageHasObjectsIn w (g.M.Metric.most w))) (sym c.deref.ensures.value) (have_objects v w (g.M.Metric.most w) c.args.parts.now.nodes.items c.requires.parts.width most c.requires.parts.nodes)

pub read_tree-tree-requires-clause-vectors : goal.read_tree-tree-requires-clause-vectors
read_tree-tree-requires-clause-vectors g c =
    subst (AllByRecursion (PageHasVectors c.args.parts.now.records.width)) (sym c.deref.ensures.value)
    (have_vectors (values_of c.args.head.now.params) c.args.parts.now.records.width c.args.parts.now.nodes.items c.requires.parts.width c.requires.parts.nodes)

pub returns-in-Ok-clause-spelled : goal.returns-in-Ok-clause-spelled
returns-in-Ok-clause-spelled g c =
    let v = values_of c.args.head.now.params in
    c.in-Ok.ensures.passes (is_spelled v.metric v.dim) (subst (AllByRecursion (PagePasses (is_spelled v.metric v.dim))) (sym c.deref.ensures.value) (pages_pass v c.args.parts.now.nodes.items c.requires.parts.nodes)) (records_pass v c.args.parts.now.records.vectors c.requires.parts.tied.stand)

pub returns-in-Ok-clause-tree : goal.returns-in-Ok-clause-tree
returns-in-Ok-clause-tree g c =
    let v = values_of c.args.head.now.params in
    let w = c.args.parts.now.records.width in
    let alike : AreAlike w g.M.Metric.dist (distance_of v.metric) = λ a b is_a is_b.
    (g.met.M.Metric.defined w a b c.width.ensures.width is_a is_b).0 ∙ ap (λ k. distance_of k a b) (sym c.requires.kind) in
    tree_at (plain c.args.head.now) w c.args.parts.now.nodes.items c.args.parts.now.records.vectors c.requires.parts.width
    ∙ ap (λ l. in_tree (tree_in (distance_of v.metric) w c.args.head.now.height c.args.head.now.root l c.args.parts.now.records.vectors)) (sym c.deref.ensures.value)
    ∙ ap in_tree (c.in-Ok.ensures.tree (distance_of v.metric) alike)

pub returns-in-Err-clause-tree : goal.returns-in-Err-clause-tree
returns-in-Err-clause-tree g c =
    let v = values_of c.args.head.now.params in
    let w = c.args.parts.now.records.width in
    let alike : AreAlike w g.M.Metric.dist (distance_of v.metric) = λ a b is_a is_b.
    (g.met.M.Metric.defined w a b c.width.ensures.width is_a is_b).0 ∙ ap (λ k. distance_of k a b) (sym c.requires.kind) in
    let read = tree_in (distance_of v.metric) w c.args.head.now.height c.args.head.now.root c.deref.result.now c.args.parts.now.records.vectors in
    subst (Fails c.tree_fault.result)
    (sym
    (tree_at (plain c.args.head.now) w c.args.parts.now.nodes.items c.args.parts.now.records.vectors c.requires.parts.width
    ∙ ap (λ l. in_tree (tree_in (distance_of v.metric) w c.args.head.now.height c.args.head.now.root l c.args.parts.now.records.vectors)) (sym c.deref.ensures.value)))
    (c.tree_fault.ensures read (c.in-Err.ensures.tree (distance_of v.metric) alike))
