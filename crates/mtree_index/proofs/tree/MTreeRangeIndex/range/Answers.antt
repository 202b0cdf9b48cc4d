use Rattle.std.proofs.Common.{◌≡◌, ℕ, List, length, Option, Some, sym, ap, subst, ◌∙◌, arith}
use Rattle.std.specs.FinMap as map
use Rattle.std.specs.List.Sorted.{IsPermutation}
use Rattle.std.proofs.lemmas.List.Sorted.{IsNonDecreasingBy-from_sort}
use Rattle.vec_record.specs.Vectors.{IsVector, IsWidth}
use Rattle.plain_dbscan.specs.Index.{near}
use Rattle.mtree_node.specs.declared.node.Node.{Node}
use Rattle.mtree_index.specs.Found.{numbers_within}
use Rattle.mtree_index.specs.Plain.{PlainTree}
use Rattle.mtree_index.specs.Tree.{contents, leaves_of}
use Rattle.mtree_index.proofs.Inserted.{held_vectors, root_distinct}
use Rattle.vec_record.proofs.Greatest.{greatest_small}
use Rattle.mtree_index.proofs.Near.{sorted_near}
use Rattle.mtree_index.proofs.Parted.{Lawful}
use Rattle.mtree_index.proofs.tree.MTreeRangeIndex.range.Given.{Over}
use Rattle.mtree_index.proofs.tree.MTreeRangeIndex.range.Goals as goal

-- the metric's laws at the width of a vector
lawful : (g : Over) (w : ℕ) (v : List ℕ) → IsWidth w → IsVector w v → Lawful g.M.Metric.dist w (g.M.Metric.most w)
lawful g w v width iv =
    let law = g.met.M.Metric in
    record {
      triangle = λ a b c x y z. law.triangle w a b c width x y z;
      bound = λ a b x y. law.bound w a b width x y;
      small = let top = (law.defined w v v width iv iv).1 in omega (arith, top, greatest_small g.M.Metric.KIND w width);
    }

pub returns-in_err-find_numbers-clause-vectors : goal.returns-in_err-find_numbers-clause-vectors
returns-in_err-find_numbers-clause-vectors g c =
    let w : c.self.inside.width ≡ length c.args.centre.now = ap (λ (t : PlainTree). t.width) c.self.view_is ∙ sym c.requires.width in
    let iv : IsVector c.self.inside.width c.args.centre.now = record { len = sym w; bytes = c.as_slice.ensures.bytes } in
    let laws = lawful g c.self.inside.width c.args.centre.now c.self.invariant.width iv in
    subst (λ (t : PlainTree). (q : ℕ) (v : List ℕ) → map.get (contents t) q ≡ Some v → IsVector t.width v) c.self.view_is
    (held_vectors g.M.Metric.dist c.self.inside.width (g.M.Metric.most c.self.inside.width) laws c.self.inside.height c.self.inside.root c.self.invariant.root)

pub returns-clause-vectors : goal.returns-clause-vectors
returns-clause-vectors g c =
    let w : c.self.inside.width ≡ length c.args.centre.now = ap (λ (t : PlainTree). t.width) c.self.view_is ∙ sym c.requires.width in
    let iv : IsVector c.self.inside.width c.args.centre.now = record { len = sym w; bytes = c.as_slice.ensures.bytes } in
    let laws = lawful g c.self.inside.width c.args.centre.now c.self.invariant.width iv in
    subst (λ (t : PlainTree). (q : ℕ) (v : List ℕ) → map.get (contents t) q ≡ Some v → IsVector t.width v) c.self.view_is
    (held_vectors g.M.Metric.dist c.self.inside.width (g.M.Metric.most c.self.inside.width) laws c.self.inside.height c.self.inside.root c.self.invariant.root)

pub returns-clause-found : goal.returns-clause-found
returns-clause-found g c =
    let dist = g.M.Metric.dist in
    let q = c.args.centre.now in
    let eps = c.args.eps in
    let es = leaves_of c.self.inside.height c.self.inside.root in
    let found : c.find_numbers.new.out.items ≡ numbers_within dist q eps es =
    c.in_ok-find_numbers.ensures.found ∙ ap (λ (o : Option Node). numbers_within dist q eps (leaves_of c.self.inside.height o)) c.as_ref-root.ensures.value in
    let moved : IsPermutation (numbers_within dist q eps es) c.sort_unstable.new.self.items = subst (λ (xs : List ℕ). IsPermutation xs c.sort_unstable.new.self.items) found c.sort_unstable.ensures.permutation in
    let up = IsNonDecreasingBy-from_sort (λ (x : ℕ). x) c.sort_unstable.new.self.items c.sort_unstable.ensures.sorted in
    let distinct = root_distinct dist c.self.inside.width (g.M.Metric.most c.self.inside.width) c.self.inside.height c.self.inside.root c.self.invariant.root in
    let whole = sorted_near dist q eps es distinct c.sort_unstable.new.self.items moved up in
    c.from_vec.ensures ∙ (whole ∙ ap (λ (t : PlainTree). near dist (contents t) q eps) c.self.view_is)
