use Rattle.std.proofs.Common.{◌≡◌, ◌∙◌, ◌≤◌, ◌<◌, ◌+◌, ◌++◌, ℕ, List, [], ap, sym, subst, take, length, nat_le, refl, arith}
use Rattle.std.specs.List.{AllByRecursion}
use Rattle.std.proofs.lemmas.List.{append-nil, length-map}
use Rattle.std.proofs.lemmas.Result.{on_ok_weaker}
use Rattle.vec_record.specs.Table.{row_at}
use Rattle.mtree_node.specs.declared.node.LeafEntry.{LeafEntry}
use Rattle.mtree_node.specs.Lists.{numbers_of, vectors_of}
use Rattle.mtree_node.proofs.Columns.{one_width}
use Rattle.mtree_index.proofs.Leaves.{leaf_finds, leaf_counts}
use Rattle.mtree_index.proofs.Places.{all_weaker}
use Rattle.mtree_index.proofs.Pruned.{inside_filter, inside_left}
use Rattle.mtree_index.proofs.query.look_at_leaf.Goals as goal

pub within-found-requires-clause-width : goal.within-found-requires-clause-width
within-found-requires-clause-width g c =
    let es = c.args.entries.now in
    let some : 0 < length es = omega (arith, c.if-count-eq0.false, c.left-count.ensures.few, ap length c.parents.ensures, length-map es (λ (e : LeafEntry). e.parent)) in
    ap length c.as_slice.ensures.value ∙ one_width es c.rows.result.now.width (length c.args.centre.now) 0 some c.rows.ensures.vectors (all_weaker _ (λ (e : LeafEntry). length e.vector ≡ length c.args.centre.now) es (λ e v. v.len) c.requires.vectors)

pub within-found-requires-clause-places : goal.within-found-requires-clause-places
within-found-requires-clause-places g c =
    let es = c.args.entries.now in
    let size : length c.parents.result.now ≤ length c.rows.result.now.rows = omega (arith, ap length c.parents.ensures, ap length c.rows.ensures.rows, length-map es (λ (e : LeafEntry). e.parent), length-map es (λ (e : LeafEntry). e.vector)) in
    subst (AllByRecursion (λ k. k < length c.rows.result.now.rows)) (sym c.left-count.ensures.left) (inside_left c.args.to_object c.args.radius c.parents.result.now (length c.rows.result.now.rows) size)

pub push_numbers-requires : goal.push_numbers-requires
push_numbers-requires g c =
    let es = c.args.entries.now in
    let size : length c.parents.result.now ≤ length c.numbers.result.now = omega (arith, ap length c.parents.ensures, ap length c.numbers.ensures, length-map es (λ (e : LeafEntry). e.parent), length-map es (λ (e : LeafEntry). e.number)) in
    let Inside : List ℕ → Type 0 = AllByRecursion (λ k. k < length c.numbers.result.now) in
    let near = λ (k : ℕ). nat_le (g.M.Metric.dist c.as_slice.result.now (row_at c.rows.result.now k)) c.args.radius in
    let left = subst Inside (sym c.left-count.ensures.left) (inside_left c.args.to_object c.args.radius c.parents.result.now (length c.numbers.result.now) size) in
    subst Inside (sym c.within-found.ensures.near) (inside_filter (λ k. k < length c.numbers.result.now) near _ left)

pub returns-clause-found : goal.returns-clause-found
returns-clause-found g c =
    let es = c.args.entries.now in
    let q = c.args.centre.now in
    let finds = leaf_finds g.M.Metric.dist q c.args.to_object c.args.radius es c.numbers.result.now c.parents.result.now _ _ c.rows.result.now c.numbers.ensures c.parents.ensures c.rows.ensures.rows c.left-count.ensures.left
    (rw (← c.as_slice.ensures.value) c.within-found.ensures.near) in
    on_ok_weaker c.push_numbers.result (λ d. d ∙ ap (λ (xs : List ℕ). c.args.out.now.items ++ xs) finds) c.push_numbers.ensures

pub returns-clause-counted : goal.returns-clause-counted
returns-clause-counted g c =
    let q = c.args.centre.now in
    c.within-found.ensures.counts ∙ ap (λ n. c.args.steps.now + n) (leaf_counts g.M.Metric.dist q c.args.to_object c.args.radius c.args.entries.now c.parents.result.now _ c.parents.ensures c.left-count.ensures.left)

pub returns-then-count-eq0-clause-found : goal.returns-then-count-eq0-clause-found
returns-then-count-eq0-clause-found g c =
    let none : take c.left-count.result c.left-count.new.places ≡ [] = ap (λ n. take n c.left-count.new.places) c.if-count-eq0.true in
    let finds = leaf_finds g.M.Metric.dist c.args.centre.now c.args.to_object c.args.radius c.args.entries.now (numbers_of c.args.entries.now) c.parents.result.now [] [] (record { width = 1; rows = vectors_of c.args.entries.now }) refl c.parents.ensures refl (sym none ∙ c.left-count.ensures.left) refl in
    sym (append-nil c.args.out.now.items) ∙ ap (λ (xs : List ℕ). c.args.out.now.items ++ xs) finds

pub returns-then-count-eq0-clause-counted : goal.returns-then-count-eq0-clause-counted
returns-then-count-eq0-clause-counted g c =
    let none : take c.left-count.result c.left-count.new.places ≡ [] = ap (λ n. take n c.left-count.new.places) c.if-count-eq0.true in
    let counts = leaf_counts g.M.Metric.dist c.args.centre.now c.args.to_object c.args.radius c.args.entries.now c.parents.result.now [] c.parents.ensures (sym none ∙ c.left-count.ensures.left) in
    omega (arith, counts)
