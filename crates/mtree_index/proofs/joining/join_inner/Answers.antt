use Rattle.std.proofs.Common.{◌≡◌, ℕ, List, ◌++◌, length, min, sym, ap, subst, ◌∙◌, arith, length-append}
use Rattle.std.specs.List.{AllByRecursion}
use Rattle.mtree_node.specs.declared.node.InnerEntry.{InnerEntry, out-InnerEntry}
use Rattle.mtree_node.specs.declared.node.Node.TheVariants as node
use Rattle.mtree_index.specs.Entries.{inner_with_parent}
use Rattle.mtree_index.specs.Insertion.{Stays, settled_inner}
use Rattle.mtree_index.specs.Removal.{all_under, farthest}
use Rattle.mtree_index.proofs.Opening.{settled_none}
use Rattle.mtree_index.proofs.Places.{all_append}
use Rattle.mtree_index.proofs.joining.join_inner.Goals as goal

pub gather-requires-clause-vectors : goal.gather-requires-clause-vectors
gather-requires-clause-vectors g c =
    let w = length c.args.object.now in
    let most = g.M.Metric.most w in
    let P = λ (e : InnerEntry). length (out-InnerEntry e).object ≡ w in
    let es = c.args.entries.now in
    let all : AllByRecursion P c.append.new.entries = subst (AllByRecursion P) (sym c.in_ok-append.ensures) (all_append P es c.args.more c.requires.left c.requires.right) in
    let is : Stays (node.Inner c.args.tag c.settle_inner.new.entries) ≡ settled_inner g.M.Metric.dist most c.args.tag c.args.right_tag c.append.new.entries =
    subst (λ (u : List ℕ). Stays (node.Inner c.args.tag c.settle_inner.new.entries) ≡ settled_inner g.M.Metric.dist (g.M.Metric.most (length u)) c.args.tag c.args.right_tag c.append.new.entries) c.as_slice.ensures.value (rw c.in_default.is at c.in_ok-pair.ensures.is) in
    let none = settled_none g.M.Metric.dist most c.args.tag c.args.right_tag c.append.new.entries c.settle_inner.new.entries is in
    subst (AllByRecursion P) (sym none.1) all

pub returns-in_default-clause-one : goal.returns-in_default-clause-one
returns-in_default-clause-one g c = λ _.
    let w = length c.args.object.now in
    let most = g.M.Metric.most w in
    let es = c.args.entries.now in
    let more = c.args.more in
    let new = c.settle_inner.new.entries in
    let is : Stays (node.Inner c.args.tag new) ≡ settled_inner g.M.Metric.dist most c.args.tag c.args.right_tag c.append.new.entries =
    subst (λ (u : List ℕ). Stays (node.Inner c.args.tag new) ≡ settled_inner g.M.Metric.dist (g.M.Metric.most (length u)) c.args.tag c.args.right_tag c.append.new.entries) c.as_slice.ensures.value (rw c.in_default.is at c.in_ok-pair.ensures.is) in
    let none = settled_none g.M.Metric.dist most c.args.tag c.args.right_tag c.append.new.entries new is in
    let all : new ≡ es ++ more = none.1 ∙ c.in_ok-append.ensures in
    let object = λ (e : InnerEntry). (out-InnerEntry e).object in
    let radius = λ (e : InnerEntry). (out-InnerEntry e).radius in
    let far = λ (xs : List InnerEntry). farthest g.M.Metric.dist object radius c.args.object.now xs in
    let top : c.greatest.result ≡ most = c.greatest.ensures.value ∙ ap (λ (u : List ℕ). g.M.Metric.most (length u)) c.as_slice.ensures.value in (
      subst (λ (xs : List InnerEntry). settled_inner g.M.Metric.dist most c.args.tag c.args.right_tag xs ≡ Stays (node.Inner c.args.tag xs)) c.in_ok-append.ensures none.0,
      c.gather.ensures.moved ∙ ap (λ (xs : List InnerEntry). all_under g.M.Metric.dist object inner_with_parent c.args.object.now xs) all,
      c.gather.ensures.radius ∙ (ap (λ (xs : List InnerEntry). min (far xs) c.greatest.result) all ∙ ap (λ (n : ℕ). min (far (es ++ more)) n) top),
    )

pub returns-in_default-clause-counted : goal.returns-in_default-clause-counted
returns-in_default-clause-counted g c =
    let w = length c.args.object.now in
    let most = g.M.Metric.most w in
    let es = c.args.entries.now in
    let more = c.args.more in
    let new = c.settle_inner.new.entries in
    let is : Stays (node.Inner c.args.tag new) ≡ settled_inner g.M.Metric.dist most c.args.tag c.args.right_tag c.append.new.entries =
    subst (λ (u : List ℕ). Stays (node.Inner c.args.tag new) ≡ settled_inner g.M.Metric.dist (g.M.Metric.most (length u)) c.args.tag c.args.right_tag c.append.new.entries) c.as_slice.ensures.value (rw c.in_default.is at c.in_ok-pair.ensures.is) in
    let none = settled_none g.M.Metric.dist most c.args.tag c.args.right_tag c.append.new.entries new is in
    let all : new ≡ es ++ more = none.1 ∙ c.in_ok-append.ensures in
    omega (arith, c.gather.ensures.counted, c.settle_inner.ensures.counted, ap length all, length-append es more, c.requires.at_most)
