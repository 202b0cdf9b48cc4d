use Rattle.std.proofs.Common.{◌≡◌, ℕ, ◌/◌, ◌<◌, ◌≤◌, List, length, map, sym, ◌∙◌, ap, subst, arith}
use Rattle.std.specs.FinMap as maps
use Rattle.vec_record.specs.Held.{Rows}
use Rattle.vec_record.specs.Limits.{width_of}
use Rattle.mtree_node.specs.declared.shape.Shape.{Shape}
use Rattle.mtree_index.specs.Tree.{contents}
use Rattle.node_places.specs.Slots.{record_slots}
use Rattle.stored_tree.specs.Shapes.{shapes_of}
use Rattle.tree_layout.specs.Layouts.{Laid, laid_of, referred}
use Rattle.page_layout.specs.Heads.{plain}
use Rattle.store_image.specs.Placing.{size_on, bodies_on, numbers_after, saved_laid}
use Rattle.store_image.proofs.PlanLayout.{size_some, cap_small, nodes_few, before_few, records_few, laid_few, laid_sized, laid_same, head_same}
use Rattle.store_image.proofs.layout.next_places.Goals as goal

pub lay-requires-clause-few : goal.lay-requires-clause-few
lay-requires-clause-few g c =
    let s = c.args.state.now in
    let h = plain s.head in
    let shapes : c.in_ok-shapes.shapes ≡ shapes_of s.clusters.tree = c.in_ok-shapes.ensures ∙ ap shapes_of c.index.ensures in
    let same : contents s.clusters.tree ≡ s.records.vectors = c.requires.kept.fits.held.same_pairs in
    let few : maps.len (contents s.clusters.tree) ≤ 200000 =
    subst (λ (rows : Rows). maps.len rows ≤ 200000) (sym same) (omega (arith, c.requires.can.few, cap_small h.values c.know_saved.ensures.head.values)) in
    subst (λ (l : List Shape). length l ≤ 200000) (sym shapes)
    (nodes_few c.trees_are_small.ensures.records c.trees_have_few_shapes.ensures.leaves c.trees_have_few_shapes.ensures.inner_nodes c.trees_have_few_shapes.ensures.kinds
    g.M.Metric.dist g.M.Metric.most s.clusters.tree c.know_saved.ensures.lawful few)

pub lay-requires-clause-pages : goal.lay-requires-clause-pages
lay-requires-clause-pages g c =
    let s = c.args.state.now in
    let h = plain s.head in
    let pages = c.args.pages.now.list in
    let bodies = bodies_on h pages in
    let some : 0 < size_on h.values = size_some (width_of h.values.metric h.values.dim) c.slots_in_page-size.ensures.width in
    let few = before_few g.M.Metric.dist g.M.Metric.most h bodies pages s.records s.clusters c.saved_are_read.ensures c.layouts_are_sized.ensures some c.requires.paged.are c.know_saved.ensures in
    omega (arith, few.all_few, ap length (c.deref.ensures.value ∙ c.requires.paged.kinds))

pub lay-requires-clause-records : goal.lay-requires-clause-records
lay-requires-clause-records g c =
    let s = c.args.state.now in
    let h = plain s.head in
    let pages = c.args.pages.now.list in
    let bodies = bodies_on h pages in
    let some : 0 < size_on h.values = size_some (width_of h.values.metric h.values.dim) c.slots_in_page-size.ensures.width in
    let numbers : c.in_ok-numbers.numbers.items ≡ numbers_after h.values bodies s.records.vectors =
    c.in_ok-numbers.ensures.numbers ∙ ap (record_slots (size_on h.values) s.records.vectors) c.requires.paged.numbers in
    let count : c.len.result / c.slots_in_page-size.result ≡ length (numbers_after h.values bodies s.records.vectors) / size_on h.values =
    ap (λ (n : ℕ). n / c.slots_in_page-size.result) (c.len.ensures ∙ c.in_ok-numbers.numbers.ok.0 ∙ ap length numbers)
    ∙ ap (λ (n : ℕ). length (numbers_after h.values bodies s.records.vectors) / n) c.slots_in_page-size.ensures.value in
    omega (arith, count, records_few g.M.Metric.dist g.M.Metric.most h bodies pages s.records s.clusters c.saved_are_read.ensures c.layouts_are_sized.ensures some c.requires.paged.are c.know_saved.ensures)

pub refer-requires : goal.refer-requires
refer-requires g c =
    let s = c.args.state.now in
    let h = plain s.head in
    let pages = c.args.pages.now.list in
    let bodies = bodies_on h pages in
    let some : 0 < size_on h.values = size_some (width_of h.values.metric h.values.dim) c.slots_in_page-size.ensures.width in
    let numbers : c.in_ok-numbers.numbers.items ≡ numbers_after h.values bodies s.records.vectors =
    c.in_ok-numbers.ensures.numbers ∙ ap (record_slots (size_on h.values) s.records.vectors) c.requires.paged.numbers in
    let count : c.len.result / c.slots_in_page-size.result ≡ length (numbers_after h.values bodies s.records.vectors) / size_on h.values =
    ap (λ (n : ℕ). n / c.slots_in_page-size.result) (c.len.ensures ∙ c.in_ok-numbers.numbers.ok.0 ∙ ap length numbers)
    ∙ ap (λ (n : ℕ). length (numbers_after h.values bodies s.records.vectors) / n) c.slots_in_page-size.ensures.value in
    let shapes : c.in_ok-shapes.shapes ≡ shapes_of s.clusters.tree = c.in_ok-shapes.ensures ∙ ap shapes_of c.index.ensures in
    let same : laid_of c.deref.result.now (c.len.result / c.slots_in_page-size.result) c.in_ok-shapes.shapes ≡ saved_laid h.values bodies s.records.vectors s.clusters =
    laid_same h.values bodies s.records.vectors s.clusters c.deref.result.now (c.len.result / c.slots_in_page-size.result) c.in_ok-shapes.shapes (c.deref.ensures.value ∙ c.requires.paged.kinds) count shapes in
    let sized = laid_sized g.M.Metric.dist g.M.Metric.most h bodies pages s.records s.clusters c.saved_are_read.ensures c.layouts_are_sized.ensures some c.requires.paged.are c.know_saved.ensures in
    ap length c.deref-2.ensures.value ∙ ap length c.in_ok-laid.ensures.refs ∙ ap (λ (l : Laid). length l.refs) same ∙ sized.refs_are ∙ ap length (sym shapes)

pub next_head-requires-clause-pages : goal.next_head-requires-clause-pages
next_head-requires-clause-pages g c =
    let s = c.args.state.now in
    let h = plain s.head in
    let pages = c.args.pages.now.list in
    let bodies = bodies_on h pages in
    let some : 0 < size_on h.values = size_some (width_of h.values.metric h.values.dim) c.slots_in_page-size.ensures.width in
    let numbers : c.in_ok-numbers.numbers.items ≡ numbers_after h.values bodies s.records.vectors =
    c.in_ok-numbers.ensures.numbers ∙ ap (record_slots (size_on h.values) s.records.vectors) c.requires.paged.numbers in
    let count : c.len.result / c.slots_in_page-size.result ≡ length (numbers_after h.values bodies s.records.vectors) / size_on h.values =
    ap (λ (n : ℕ). n / c.slots_in_page-size.result) (c.len.ensures ∙ c.in_ok-numbers.numbers.ok.0 ∙ ap length numbers)
    ∙ ap (λ (n : ℕ). length (numbers_after h.values bodies s.records.vectors) / n) c.slots_in_page-size.ensures.value in
    let shapes : c.in_ok-shapes.shapes ≡ shapes_of s.clusters.tree = c.in_ok-shapes.ensures ∙ ap shapes_of c.index.ensures in
    let same : laid_of c.deref.result.now (c.len.result / c.slots_in_page-size.result) c.in_ok-shapes.shapes ≡ saved_laid h.values bodies s.records.vectors s.clusters =
    laid_same h.values bodies s.records.vectors s.clusters c.deref.result.now (c.len.result / c.slots_in_page-size.result) c.in_ok-shapes.shapes (c.deref.ensures.value ∙ c.requires.paged.kinds) count shapes in
    omega (arith, ap length c.in_ok-laid.ensures.kinds, ap (λ (l : Laid). length l.kinds) same, laid_few g.M.Metric.dist g.M.Metric.most h bodies pages s.records s.clusters c.saved_are_read.ensures c.layouts_are_sized.ensures some c.requires.paged.are c.know_saved.ensures)

pub returns-clause-next : goal.returns-clause-next
returns-clause-next g c =
    let s = c.args.state.now in
    let h = plain s.head in
    let pages = c.args.pages.now.list in
    let bodies = bodies_on h pages in
    let some : 0 < size_on h.values = size_some (width_of h.values.metric h.values.dim) c.slots_in_page-size.ensures.width in
    let numbers : c.in_ok-numbers.numbers.items ≡ numbers_after h.values bodies s.records.vectors =
    c.in_ok-numbers.ensures.numbers ∙ ap (record_slots (size_on h.values) s.records.vectors) c.requires.paged.numbers in
    let count : c.len.result / c.slots_in_page-size.result ≡ length (numbers_after h.values bodies s.records.vectors) / size_on h.values =
    ap (λ (n : ℕ). n / c.slots_in_page-size.result) (c.len.ensures ∙ c.in_ok-numbers.numbers.ok.0 ∙ ap length numbers)
    ∙ ap (λ (n : ℕ). length (numbers_after h.values bodies s.records.vectors) / n) c.slots_in_page-size.ensures.value in
    let shapes : c.in_ok-shapes.shapes ≡ shapes_of s.clusters.tree = c.in_ok-shapes.ensures ∙ ap shapes_of c.index.ensures in
    let same : laid_of c.deref.result.now (c.len.result / c.slots_in_page-size.result) c.in_ok-shapes.shapes ≡ saved_laid h.values bodies s.records.vectors s.clusters =
    laid_same h.values bodies s.records.vectors s.clusters c.deref.result.now (c.len.result / c.slots_in_page-size.result) c.in_ok-shapes.shapes (c.deref.ensures.value ∙ c.requires.paged.kinds) count shapes in
    let laid = saved_laid h.values bodies s.records.vectors s.clusters in
    let kinds = c.in_ok-laid.ensures.kinds ∙ ap (λ (l : Laid). l.kinds) same in
    let refs = c.in_ok-laid.ensures.refs ∙ ap (λ (l : Laid). l.refs) same in
    record {
      head = c.next_head.ensures ∙ head_same h laid s.records.vectors s.clusters.tree c.in_ok-laid.laid.kinds.items c.in_ok-laid.laid.refs.items kinds refs;
      numbers = numbers;
      shapes = c.refer.ensures ∙ ap (λ (l : List Shape). map (referred c.deref-2.result.now) l) shapes
          ∙ ap (λ (l : List ℕ). map (referred l) (shapes_of s.clusters.tree)) (c.deref-2.ensures.value ∙ refs);
      leaves = c.in_ok-laid.ensures.leaves ∙ ap (λ (l : Laid). l.leaves) same;
      inners = c.in_ok-laid.ensures.inners ∙ ap (λ (l : Laid). l.inners) same;
      kinds = kinds;
      refs = refs;
    }
