use Rattle.std.proofs.Common.{◌≡◌, ℕ, ◌*◌, ◌<◌, length, map, List, [], get_or, ap, ◌∙◌, arith}
use Rattle.std.proofs.lemmas.List.{length-map}
use Rattle.mtree_split.specs.Choice.{row_of}
use Rattle.mtree_index.specs.Split.{row, distances}
use Rattle.mtree_index.proofs.Matrix.{length-distances, row_is}
use Rattle.mtree_index.proofs.Halves.{objects_of, parting_is, left_is, right_is}
use Rattle.mtree_index.proofs.split.split.Goals as goal

square : (dist : List ℕ → List ℕ → ℕ) (os : List (List ℕ)) (m : List ℕ) (n : ℕ) → m ≡ distances dist os → n ≡ length os → length m ≡ n * n
square dist os m n is count = rw (is, count) (length-distances dist os)

row_there : (dist : List ℕ → List ℕ → ℕ) (os : List (List ℕ)) (m ds o : List ℕ) (n i : ℕ) → ds ≡ row_of n m i → m ≡ distances dist os → n ≡ length os → i < n → o ≡ get_or os i [] → ds ≡ row dist o os
row_there dist os m ds o n i is matrix count inside at = is ∙ (rw (matrix, count, at) (row_is dist os i (rw count at inside)))

pub choose-parting-requires-clause-square : goal.choose-parting-requires-clause-square
choose-parting-requires-clause-square g c =
    let os = map g.E.Entry.object c.args.entries.items in
    let count : c.len-count.result ≡ length os = omega (arith, c.len-count.ensures, c.args.entries.ok, length-map c.args.entries.items g.E.Entry.object) in
    let matrix : c.deref-3.result.now ≡ distances g.M.Metric.dist os = c.deref-3.ensures.value ∙ (c.in_ok-matrix.ensures.matrix ∙ ap (λ xs. distances g.M.Metric.dist (map g.E.Entry.object xs)) c.deref.ensures.value) in
    square g.M.Metric.dist os c.deref-3.result.now c.len-count.result matrix count

pub row_at-left_row-requires-clause-square : goal.row_at-left_row-requires-clause-square
row_at-left_row-requires-clause-square g c =
    let os = map g.E.Entry.object c.args.entries.items in
    let count : c.len-count.result ≡ length os = omega (arith, c.len-count.ensures, c.args.entries.ok, length-map c.args.entries.items g.E.Entry.object) in
    let matrix : c.deref-7.result.now ≡ distances g.M.Metric.dist os = c.deref-7.ensures.value ∙ (c.in_ok-matrix.ensures.matrix ∙ ap (λ xs. distances g.M.Metric.dist (map g.E.Entry.object xs)) c.deref.ensures.value) in
    square g.M.Metric.dist os c.deref-7.result.now c.len-count.result matrix count

pub row_at-right_row-requires-clause-square : goal.row_at-right_row-requires-clause-square
row_at-right_row-requires-clause-square g c =
    let os = map g.E.Entry.object c.args.entries.items in
    let count : c.len-count.result ≡ length os = omega (arith, c.len-count.ensures, c.args.entries.ok, length-map c.args.entries.items g.E.Entry.object) in
    let matrix : c.deref-8.result.now ≡ distances g.M.Metric.dist os = c.deref-8.ensures.value ∙ (c.in_ok-matrix.ensures.matrix ∙ ap (λ xs. distances g.M.Metric.dist (map g.E.Entry.object xs)) c.deref.ensures.value) in
    square g.M.Metric.dist os c.deref-8.result.now c.len-count.result matrix count

pub returns-clause-left : goal.returns-clause-left
returns-clause-left g c =
    let dist = g.M.Metric.dist in
    let object = g.E.Entry.object in
    let es = c.args.entries.items in
    let os = map object es in
    let p = c.choose-parting.result in
    let count : c.len-count.result ≡ length os = omega (arith, c.len-count.ensures, c.args.entries.ok, length-map es object) in
    let inside : p.left < c.len-count.result = omega (arith, c.choose-parting.ensures.rises, c.choose-parting.ensures.inside) in
    let matrix : c.in_ok-matrix.matrix.items ≡ distances dist os = c.in_ok-matrix.ensures.matrix ∙ ap (λ xs. distances dist (map object xs)) c.deref.ensures.value in
    let reaches : c.deref-4.result.now ≡ map g.E.Entry.radius es = c.deref-4.ensures.value ∙ (c.in_ok-reaches.ensures ∙ ap (map g.E.Entry.radius) c.deref-2.ensures.value) in
    let is = parting_is dist (g.M.Metric.most c.args.width) object g.E.Entry.radius g.E.Entry.with_parent es p c.len-count.result c.deref-3.result.now c.deref-4.result.now c.greatest.result
    c.choose-parting.ensures.is (omega (arith, c.len-count.ensures, c.args.entries.ok)) (c.deref-3.ensures.value ∙ matrix) reaches c.greatest.ensures.value in
    let at : c.in_ok-left_object.left_object ≡ get_or os p.left [] = c.in_ok-left_object.ensures ∙ ap (λ xs. get_or (map object xs) p.left []) c.deref-5.ensures.value in
    let there = row_there dist os c.deref-7.result.now c.row_at-left_row.result.now c.in_ok-left_object.left_object c.len-count.result p.left c.row_at-left_row.ensures.value (c.deref-7.ensures.value ∙ matrix) count inside at in
    left_is dist (g.M.Metric.most c.args.width) object g.E.Entry.radius g.E.Entry.with_parent es p c.in_ok-left_object.left_object c.row_at-left_row.result.now c.in_ok-left.left is at there c.in_ok-left.ensures.left

pub returns-clause-right : goal.returns-clause-right
returns-clause-right g c =
    let dist = g.M.Metric.dist in
    let object = g.E.Entry.object in
    let es = c.args.entries.items in
    let os = map object es in
    let p = c.choose-parting.result in
    let count : c.len-count.result ≡ length os = omega (arith, c.len-count.ensures, c.args.entries.ok, length-map es object) in
    let inside : p.right < c.len-count.result = omega (arith, c.choose-parting.ensures.rises, c.choose-parting.ensures.inside) in
    let matrix : c.in_ok-matrix.matrix.items ≡ distances dist os = c.in_ok-matrix.ensures.matrix ∙ ap (λ xs. distances dist (map object xs)) c.deref.ensures.value in
    let reaches : c.deref-4.result.now ≡ map g.E.Entry.radius es = c.deref-4.ensures.value ∙ (c.in_ok-reaches.ensures ∙ ap (map g.E.Entry.radius) c.deref-2.ensures.value) in
    let is = parting_is dist (g.M.Metric.most c.args.width) object g.E.Entry.radius g.E.Entry.with_parent es p c.len-count.result c.deref-3.result.now c.deref-4.result.now c.greatest.result
    c.choose-parting.ensures.is (omega (arith, c.len-count.ensures, c.args.entries.ok)) (c.deref-3.ensures.value ∙ matrix) reaches c.greatest.ensures.value in
    let at : c.in_ok-right_object.right_object ≡ get_or os p.right [] = c.in_ok-right_object.ensures ∙ ap (λ xs. get_or (map object xs) p.right []) c.deref-6.ensures.value in
    let there = row_there dist os c.deref-8.result.now c.row_at-right_row.result.now c.in_ok-right_object.right_object c.len-count.result p.right c.row_at-right_row.ensures.value (c.deref-8.ensures.value ∙ matrix) count inside at in
    right_is dist (g.M.Metric.most c.args.width) object g.E.Entry.radius g.E.Entry.with_parent es p c.in_ok-right_object.right_object c.row_at-right_row.result.now c.in_ok-left.right is at there c.in_ok-left.ensures.right

pub returns-clause-objects : goal.returns-clause-objects
returns-clause-objects g c =
    let object = g.E.Entry.object in
    let es = c.args.entries.items in
    let p = c.choose-parting.result in
    let left : p.left < length es = omega (arith, c.choose-parting.ensures.rises, c.choose-parting.ensures.inside, c.len-count.ensures, c.args.entries.ok) in
    let right : p.right < length es = omega (arith, c.choose-parting.ensures.inside, c.len-count.ensures, c.args.entries.ok) in
    let left_at : c.in_ok-left_object.left_object ≡ get_or (map object es) p.left [] = c.in_ok-left_object.ensures ∙ ap (λ xs. get_or (map object xs) p.left []) c.deref-5.ensures.value in
    let right_at : c.in_ok-right_object.right_object ≡ get_or (map object es) p.right [] = c.in_ok-right_object.ensures ∙ ap (λ xs. get_or (map object xs) p.right []) c.deref-6.ensures.value in (
      ap (λ (v : List ℕ). length v) left_at ∙ objects_of object c.args.width es p.left c.requires.vectors left,
      ap (λ (v : List ℕ). length v) right_at ∙ objects_of object c.args.width es p.right c.requires.vectors right,
    )
