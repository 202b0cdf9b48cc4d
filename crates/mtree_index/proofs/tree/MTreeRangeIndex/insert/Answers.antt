use Rattle.std.proofs.Common.{◌≡◌, ℕ, List, length, Some, sym, ap, subst, ◌∙◌, arith}
use Rattle.std.specs.FinMap as map
use Rattle.vec_record.specs.Vectors.{IsVector, IsWidth}
use Rattle.mtree_index.specs.Plain.{PlainTree}
use Rattle.mtree_index.specs.Tree.{contents}
use Rattle.mtree_index.proofs.Inserted.{held_vectors, call_keeps}
use Rattle.vec_record.proofs.Greatest.{greatest_small}
use Rattle.mtree_index.proofs.Parted.{Lawful}
use Rattle.mtree_index.proofs.tree.MTreeRangeIndex.insert.Given.{Over}
use Rattle.mtree_index.proofs.tree.MTreeRangeIndex.insert.Goals as goal

-- the metric's laws at the width of a vector
lawful : (g : Over) (w : ℕ) (v : List ℕ) → IsWidth w → IsVector w v → Lawful g.M.Metric.dist w (g.M.Metric.most w)
lawful g w v width iv =
    let law = g.met.M.Metric in
    record {
      triangle = λ a b c x y z. law.triangle w a b c width x y z;
      bound = λ a b x y. law.bound w a b width x y;
      small = let top = (law.defined w v v width iv iv).1 in omega (arith, top, greatest_small g.M.Metric.KIND w width);
    }

pub returns-in_err-root-clause-vectors : goal.returns-in_err-root-clause-vectors
returns-in_err-root-clause-vectors g c =
    let w : c.self.inside.width ≡ length c.args.vector.now = ap (λ (t : PlainTree). t.width) c.self.view_is ∙ sym c.requires.width in
    let iv : IsVector c.self.inside.width c.args.vector.now = record { len = sym w; bytes = c.as_slice.ensures.bytes } in
    let laws = lawful g c.self.inside.width c.args.vector.now c.self.invariant.width iv in
    subst (λ (t : PlainTree). (q : ℕ) (v : List ℕ) → map.get (contents t) q ≡ Some v → IsVector t.width v) c.self.view_is
    (held_vectors g.M.Metric.dist c.self.inside.width (g.M.Metric.most c.self.inside.width) laws c.self.inside.height c.self.inside.root c.self.invariant.root)

pub returns-clause-vectors : goal.returns-clause-vectors
returns-clause-vectors g c =
    let w : c.self.inside.width ≡ length c.args.vector.now = ap (λ (t : PlainTree). t.width) c.self.view_is ∙ sym c.requires.width in
    let iv : IsVector c.self.inside.width c.args.vector.now = record { len = sym w; bytes = c.as_slice.ensures.bytes } in
    let laws = lawful g c.self.inside.width c.args.vector.now c.self.invariant.width iv in
    subst (λ (t : PlainTree). (q : ℕ) (v : List ℕ) → map.get (contents t) q ≡ Some v → IsVector t.width v) c.self.view_is
    (held_vectors g.M.Metric.dist c.self.inside.width (g.M.Metric.most c.self.inside.width) laws c.self.inside.height c.self.inside.root c.self.invariant.root)

pub invariant_of-self-2 : goal.invariant_of-self-2
invariant_of-self-2 g c =
    let t : PlainTree = record { width = c.self.inside.width; height = c.self.inside.height; root = c.self.inside.root } in
    (call_keeps g.M.Metric.dist g.M.Metric.most t c.args.self.now c.self.view_is c.self.invariant c.args.number c.args.vector.now c.requires.width c.as_slice.ensures.bytes
    (lawful g c.self.inside.width c.args.vector.now c.self.invariant.width) c.requires.absent c.requires.room c.take-root.result c.take-root.ensures.value c.in_ok-root.height c.in_ok-root.root c.in_ok-root.ensures.is).0

pub returns-clause-inserted : goal.returns-clause-inserted
returns-clause-inserted g c =
    let t : PlainTree = record { width = c.self.inside.width; height = c.self.inside.height; root = c.self.inside.root } in
    (call_keeps g.M.Metric.dist g.M.Metric.most t c.args.self.now c.self.view_is c.self.invariant c.args.number c.args.vector.now c.requires.width c.as_slice.ensures.bytes
    (lawful g c.self.inside.width c.args.vector.now c.self.invariant.width) c.requires.absent c.requires.room c.take-root.result c.take-root.ensures.value c.in_ok-root.height c.in_ok-root.root c.in_ok-root.ensures.is).1
