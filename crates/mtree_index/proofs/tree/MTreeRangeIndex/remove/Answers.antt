use Rattle.std.proofs.Common.{◌≡◌, ℕ, Bool, true, false, List, length, Option, Some, None, sym, ap, subst, ◌∙◌, arith}
use Rattle.std.specs.Prelude.{◌↔◌, IsTrue, Ok, Result}
use Rattle.std.specs.declared.alloc.AllocError.{AllocError}
use Rattle.std.specs.FinMap as map
use Rattle.vec_record.specs.Vectors.{IsVector, IsWidth}
use Rattle.mtree_node.specs.declared.node.Node.{Node}
use Rattle.mtree_index.specs.Plain.{PlainTree}
use Rattle.mtree_index.specs.Shrinking.{IsRemoved, shrunk_from}
use Rattle.mtree_index.specs.Tree.{contents, root_cost, query_cost}
use Rattle.mtree_index.proofs.Inserted.{held_vectors}
use Rattle.vec_record.proofs.Greatest.{greatest_small}
use Rattle.mtree_index.proofs.Lost.{Telling}
use Rattle.mtree_index.proofs.Parted.{Lawful}
use Rattle.mtree_index.proofs.Removed.{whole, call_absent, call_done}
use Rattle.mtree_index.proofs.tree.MTreeRangeIndex.remove.Given.{Over}
use Rattle.mtree_index.proofs.tree.MTreeRangeIndex.remove.Goals as goal

-- the metric's laws at the width of a vector
lawful : (g : Over) (w : ℕ) (v : List ℕ) → IsWidth w → IsVector w v → Lawful g.M.Metric.dist w (g.M.Metric.most w)
lawful g w v width iv =
    let law = g.met.M.Metric in
    record {
      triangle = λ a b c x y z. law.triangle w a b c width x y z;
      bound = λ a b x y. law.bound w a b width x y;
      small = let top = (law.defined w v v width iv iv).1 in omega (arith, top, greatest_small g.M.Metric.KIND w width);
    }

telling : (g : Over) (w : ℕ) → IsWidth w → Telling g.M.Metric.dist w
telling g w width = let law = g.met.M.Metric in record { identity = λ a b x y. law.identity w a b width x y; symmetry = λ a b x y. law.symmetry w a b width x y }

same_parts : (found : Bool) (r s : Option Node) (h k : ℕ) → ◌≡◌ {A = Result (Bool × Option Node × ℕ) AllocError} (Ok (false, r, h)) (Ok (found, s, k)) → (found ≡ false) × ((k ≡ h) × (s ≡ r))
same_parts found r s h k is = let inside : ◌≡◌ {A = Bool × Option Node × ℕ} (false, r, h) (found, s, k) = cc in (sym (ap (λ (x : Bool × Option Node × ℕ). x.0) inside), (sym (ap (λ (x : Bool × Option Node × ℕ). x.2) inside), sym (ap (λ (x : Bool × Option Node × ℕ). x.1) inside)))

pub returns-in_err-found-clause-vectors : goal.returns-in_err-found-clause-vectors
returns-in_err-found-clause-vectors g c =
    let dist = g.M.Metric.dist in
    let most = g.M.Metric.most in
    let t : PlainTree = whole c.self.inside.width c.self.inside.height c.self.inside.root in
    let v = c.args.vector.now in
    let bytes = c.as_slice.ensures.bytes in
    let laws = lawful g t.width v c.self.invariant.width in
    let tells = λ (i : IsVector t.width v). telling g t.width c.self.invariant.width in
    let root = c.take-root.result in
    subst (λ (x : PlainTree). (q : ℕ) (u : List ℕ) → map.get (contents x) q ≡ Some u → IsVector x.width u) c.self.view_is (held_vectors dist t.width (most t.width) (laws (record { len = c.requires.width ∙ sym (ap (λ (x : PlainTree). x.width) c.self.view_is); bytes = bytes })) t.height t.root c.self.invariant.root)

pub returns-clause-vectors : goal.returns-clause-vectors
returns-clause-vectors g c =
    let dist = g.M.Metric.dist in
    let most = g.M.Metric.most in
    let t : PlainTree = whole c.self.inside.width c.self.inside.height c.self.inside.root in
    let v = c.args.vector.now in
    let bytes = c.as_slice.ensures.bytes in
    let laws = lawful g t.width v c.self.invariant.width in
    let tells = λ (i : IsVector t.width v). telling g t.width c.self.invariant.width in
    let root = c.take-root.result in
    subst (λ (x : PlainTree). (q : ℕ) (u : List ℕ) → map.get (contents x) q ≡ Some u → IsVector x.width u) c.self.view_is (held_vectors dist t.width (most t.width) (laws (record { len = c.requires.width ∙ sym (ap (λ (x : PlainTree). x.width) c.self.view_is); bytes = bytes })) t.height t.root c.self.invariant.root)

pub returns-in_err-found-clause-counted : goal.returns-in_err-found-clause-counted
returns-in_err-found-clause-counted g c =
    let dist = g.M.Metric.dist in
    let most = g.M.Metric.most in
    let t : PlainTree = whole c.self.inside.width c.self.inside.height c.self.inside.root in
    let v = c.args.vector.now in
    let bytes = c.as_slice.ensures.bytes in
    let laws = lawful g t.width v c.self.invariant.width in
    let tells = λ (i : IsVector t.width v). telling g t.width c.self.invariant.width in
    let root = c.take-root.result in
    omega (arith, c.shrink.ensures.counted, c.self.invariant.low, ap (λ (x : Option Node). root_cost dist t.height x v 0) c.take-root.ensures.value, ap (λ (x : PlainTree). query_cost dist x v 0) c.self.view_is)

pub returns-clause-counted : goal.returns-clause-counted
returns-clause-counted g c =
    let dist = g.M.Metric.dist in
    let most = g.M.Metric.most in
    let t : PlainTree = whole c.self.inside.width c.self.inside.height c.self.inside.root in
    let v = c.args.vector.now in
    let bytes = c.as_slice.ensures.bytes in
    let laws = lawful g t.width v c.self.invariant.width in
    let tells = λ (i : IsVector t.width v). telling g t.width c.self.invariant.width in
    let root = c.take-root.result in
    omega (arith, c.shrink.ensures.counted, c.self.invariant.low, ap (λ (x : Option Node). root_cost dist t.height x v 0) c.take-root.ensures.value, ap (λ (x : PlainTree). query_cost dist x v 0) c.self.view_is)

pub returns-in_err-found-clause-absent : goal.returns-in_err-found-clause-absent
returns-in_err-found-clause-absent g c =
    let dist = g.M.Metric.dist in
    let most = g.M.Metric.most in
    let t : PlainTree = whole c.self.inside.width c.self.inside.height c.self.inside.root in
    let v = c.args.vector.now in
    let bytes = c.as_slice.ensures.bytes in
    let laws = lawful g t.width v c.self.invariant.width in
    let tells = λ (i : IsVector t.width v). telling g t.width c.self.invariant.width in
    let root = c.take-root.result in
    λ no. absurd (cc (c.shrink.ensures.absent (call_absent dist most t c.args.self.now c.self.view_is c.self.invariant c.args.number v c.requires.width bytes laws tells root c.take-root.ensures.value no), c.in_err-found.was))

pub invariant_of-self-2 : goal.invariant_of-self-2
invariant_of-self-2 g c =
    let dist = g.M.Metric.dist in
    let most = g.M.Metric.most in
    let t : PlainTree = whole c.self.inside.width c.self.inside.height c.self.inside.root in
    let v = c.args.vector.now in
    let bytes = c.as_slice.ensures.bytes in
    let laws = lawful g t.width v c.self.invariant.width in
    let tells = λ (i : IsVector t.width v). telling g t.width c.self.invariant.width in
    let root = c.take-root.result in
    let found = c.in_ok-found.found in
    let h = c.in_ok-found.height in
    let r = c.in_ok-found.root in
    let stays = λ (none : shrunk_from dist (most (length v)) c.args.number v (length v) t.height root ≡ None). let is : ◌≡◌ {A = Result (Bool × Option Node × ℕ) AllocError} (Ok (false, root, t.height)) (Ok (found, r, h)) = sym (c.shrink.ensures.absent none) ∙ c.in_ok-found.was in same_parts found root r t.height h is in
    let d = call_done dist most t c.args.self.now c.self.view_is c.self.invariant c.args.number v c.requires.width bytes laws tells root c.take-root.ensures.value found h r c.in_ok-found.ensures.is (λ none. (stays none).1) in
    d.lawful_then

pub returns-clause-present : goal.returns-clause-present
returns-clause-present g c =
    let dist = g.M.Metric.dist in
    let most = g.M.Metric.most in
    let t : PlainTree = whole c.self.inside.width c.self.inside.height c.self.inside.root in
    let v = c.args.vector.now in
    let bytes = c.as_slice.ensures.bytes in
    let laws = lawful g t.width v c.self.invariant.width in
    let tells = λ (i : IsVector t.width v). telling g t.width c.self.invariant.width in
    let root = c.take-root.result in
    let found = c.in_ok-found.found in
    let h = c.in_ok-found.height in
    let r = c.in_ok-found.root in
    let stays = λ (none : shrunk_from dist (most (length v)) c.args.number v (length v) t.height root ≡ None). let is : ◌≡◌ {A = Result (Bool × Option Node × ℕ) AllocError} (Ok (false, root, t.height)) (Ok (found, r, h)) = sym (c.shrink.ensures.absent none) ∙ c.in_ok-found.was in same_parts found root r t.height h is in
    let d = call_done dist most t c.args.self.now c.self.view_is c.self.invariant c.args.number v c.requires.width bytes laws tells root c.take-root.ensures.value found h r c.in_ok-found.ensures.is (λ none. (stays none).1) in
    subst (λ (x : PlainTree). IsTrue found ↔ (map.get (contents x) c.args.number ≡ Some v)) c.self.view_is d.present

pub returns-clause-removed : goal.returns-clause-removed
returns-clause-removed g c =
    let dist = g.M.Metric.dist in
    let most = g.M.Metric.most in
    let t : PlainTree = whole c.self.inside.width c.self.inside.height c.self.inside.root in
    let v = c.args.vector.now in
    let bytes = c.as_slice.ensures.bytes in
    let laws = lawful g t.width v c.self.invariant.width in
    let tells = λ (i : IsVector t.width v). telling g t.width c.self.invariant.width in
    let root = c.take-root.result in
    let found = c.in_ok-found.found in
    let h = c.in_ok-found.height in
    let r = c.in_ok-found.root in
    let stays = λ (none : shrunk_from dist (most (length v)) c.args.number v (length v) t.height root ≡ None). let is : ◌≡◌ {A = Result (Bool × Option Node × ℕ) AllocError} (Ok (false, root, t.height)) (Ok (found, r, h)) = sym (c.shrink.ensures.absent none) ∙ c.in_ok-found.was in same_parts found root r t.height h is in
    let d = call_done dist most t c.args.self.now c.self.view_is c.self.invariant c.args.number v c.requires.width bytes laws tells root c.take-root.ensures.value found h r c.in_ok-found.ensures.is (λ none. (stays none).1) in
    λ y. subst (λ (x : PlainTree). IsRemoved dist most x (whole t.width h r) c.args.number v) c.self.view_is (d.shrunk (let is : ◌≡◌ {A = Result Bool AllocError} (Ok found) (Ok true) = y in cc))

pub returns-clause-absent : goal.returns-clause-absent
returns-clause-absent g c =
    let dist = g.M.Metric.dist in
    let most = g.M.Metric.most in
    let t : PlainTree = whole c.self.inside.width c.self.inside.height c.self.inside.root in
    let v = c.args.vector.now in
    let bytes = c.as_slice.ensures.bytes in
    let laws = lawful g t.width v c.self.invariant.width in
    let tells = λ (i : IsVector t.width v). telling g t.width c.self.invariant.width in
    let root = c.take-root.result in
    let found = c.in_ok-found.found in
    let h = c.in_ok-found.height in
    let r = c.in_ok-found.root in
    let stays = λ (none : shrunk_from dist (most (length v)) c.args.number v (length v) t.height root ≡ None). let is : ◌≡◌ {A = Result (Bool × Option Node × ℕ) AllocError} (Ok (false, root, t.height)) (Ok (found, r, h)) = sym (c.shrink.ensures.absent none) ∙ c.in_ok-found.was in same_parts found root r t.height h is in
    let d = call_done dist most t c.args.self.now c.self.view_is c.self.invariant c.args.number v c.requires.width bytes laws tells root c.take-root.ensures.value found h r c.in_ok-found.ensures.is (λ none. (stays none).1) in
    λ no. let same = stays (call_absent dist most t c.args.self.now c.self.view_is c.self.invariant c.args.number v c.requires.width bytes laws tells root c.take-root.ensures.value no) in (ap Ok same.0, (ap (λ (j : ℕ). whole t.width j r) same.1.0 ∙ ap (λ (x : Option Node). whole t.width t.height x) (same.1.1 ∙ c.take-root.ensures.value)) ∙ c.self.view_is)
