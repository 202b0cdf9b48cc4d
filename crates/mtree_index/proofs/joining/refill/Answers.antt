use Rattle.std.proofs.Common.{◌≡◌, ℕ, ◌+◌, ◌-◌, ◌<◌, ◌≤◌, get_or, Some, sym, ap, subst, ◌∙◌, arith}
use Rattle.std.specs.List.{slice_get}
use Rattle.std.specs.Option.{option_copied}
use Rattle.std.proofs.lemmas.Result.{on_ok_weaker}
use Rattle.mtree_node.specs.declared.node.InnerEntry.{InnerEntry, out-InnerEntry}
use Rattle.mtree_index.specs.Removal.{joined, joined_at, size}
use Rattle.mtree_index.proofs.Opening.{short_is, short, not_short, refilled_same, refilled_short}
use Rattle.mtree_index.proofs.Walks.{got}
use Rattle.mtree_index.proofs.joining.refill.Goals as goal

pub returns-then-size-ge-FEWEST-clause-is : goal.returns-then-size-ge-FEWEST-clause-is
returns-then-size-ge-FEWEST-clause-is g c =
    let es = c.args.entries.now in
    let x = c.index-as_slice-place.result in
    let at : slice_get es c.args.place ≡ Some x = got es c.args.place x c.requires.within (c.index-as_slice-place.is ∙ ap (λ xs. get_or xs c.args.place x) c.as_slice.ensures) in
    let kid : c.size.result ≡ size (out-InnerEntry x).child = c.size.ensures ∙ (ap size c.get.ensures ∙ ap (λ (y : InnerEntry). size (out-InnerEntry y).child) (sym c.index-as_slice-place.is)) in
    let many : 7 ≤ size (out-InnerEntry x).child = subst (λ (n : ℕ). 7 ≤ n) kid c.if-size-ge-FEWEST.true in
    refilled_same g.M.Metric.dist (g.M.Metric.most c.args.width) (option_copied c.args.over) c.args.place es (short_is es c.args.place x at ∙ not_short (size (out-InnerEntry x).child) many)

pub join_at-requires-clause-joinable : goal.join_at-requires-clause-joinable
join_at-requires-clause-joinable g c =
    let es = c.args.entries.now in
    let x = c.index-as_slice-place.result in
    let at : slice_get es c.args.place ≡ Some x = got es c.args.place x c.requires.within (c.index-as_slice-place.is ∙ ap (λ xs. get_or xs c.args.place x) c.as_slice.ensures) in
    let kid : c.size.result ≡ size (out-InnerEntry x).child = c.size.ensures ∙ (ap size c.get.ensures ∙ ap (λ (y : InnerEntry). size (out-InnerEntry y).child) (sym c.index-as_slice-place.is)) in
    let few : size (out-InnerEntry x).child < 7 = subst (λ (n : ℕ). n < 7) kid c.if-size-ge-FEWEST.false in
    let is : c.saturating_sub.result ≡ c.args.place - 1 = omega (arith, c.saturating_sub.ensures) in
    λ left right a b.
    c.requires.joinable (short_is es c.args.place x at ∙ short (size (out-InnerEntry x).child) few) left right
    (subst (λ (k : ℕ). slice_get es k ≡ Some left) is a) (subst (λ (k : ℕ). slice_get es (k + 1) ≡ Some right) is b)

pub returns-clause-is : goal.returns-clause-is
returns-clause-is g c =
    let es = c.args.entries.now in
    let over = option_copied c.args.over in
    let most = g.M.Metric.most c.args.width in
    let x = c.index-as_slice-place.result in
    let at : slice_get es c.args.place ≡ Some x = got es c.args.place x c.requires.within (c.index-as_slice-place.is ∙ ap (λ xs. get_or xs c.args.place x) c.as_slice.ensures) in
    let kid : c.size.result ≡ size (out-InnerEntry x).child = c.size.ensures ∙ (ap size c.get.ensures ∙ ap (λ (y : InnerEntry). size (out-InnerEntry y).child) (sym c.index-as_slice-place.is)) in
    let few : size (out-InnerEntry x).child < 7 = subst (λ (n : ℕ). n < 7) kid c.if-size-ge-FEWEST.false in
    let is : c.saturating_sub.result ≡ c.args.place - 1 = omega (arith, c.saturating_sub.ensures) in
    on_ok_weaker c.join_at.result (λ d.
    d
    ∙ (ap (λ (k : ℕ). joined_at k (joined g.M.Metric.dist most over) es) is
    ∙ refilled_short g.M.Metric.dist most over c.args.place es (short_is es c.args.place x at ∙ short (size (out-InnerEntry x).child) few))) c.join_at.ensures.is
