use Rattle.std.proofs.Common.{◌≡◌, ℕ, List, ◌∷◌, [], length, ap, ◌∙◌, sym, subst, arith, length-append}
use Rattle.std.specs.List.{AllByRecursion}
use Rattle.mtree_index.proofs.Places.{all_append}
use Rattle.mtree_index.proofs.query_tests.vectors_of.Goals as goal

pub loop-preserved : goal.loop-preserved
loop-preserved c =
    let P : List ℕ → Type 0 = λ x. length x ≡ 2 in
    let items = c.in_ok-push.ensures.items in
    record {
      number = omega (arith, c.loop.invariant.number);
      count = omega (arith, ap length items, length-append c.loop.found.items (c.in_ok-vector.vector ∷ []), c.loop.invariant.count);
      widths = subst (AllByRecursion P) (sym items) (all_append P c.loop.found.items (c.in_ok-vector.vector ∷ []) c.loop.invariant.widths (c.in_ok-vector.ensures ∙ c.requires.width, tt));
    }
