use Rattle.std.proofs.Common.{◌≡◌, ◌∙◌, ap, length, replicate, List, ℕ, arith, rules}
use Rattle.std.proofs.lemmas.List.{with_items_is, length-replicate}
use Rattle.mtree_node.proofs.Columns.{seen_cleared}
use Rattle.mtree_node.proofs.leaf_entries.LeafEntries.clear_parents.Goals as goal

pub returns : goal.returns
returns c =
    let cleared : c.clear.new.parents ≡ replicate (length c.self.inside.parents.items) 0 = c.clear.ensures ∙ ap (λ (xs : List ℕ). replicate (length xs) 0) c.deref_mut.ensures.value in
    let long = ap length c.clear.ensures ∙ (length-replicate (length c.deref_mut.result.now) 0 ∙ c.deref_mut.ensures.len) in
    seen_cleared _ _ _ _ c.self.view_is c.self.invariant.0 c.self.invariant.1 _ (with_items_is c.self.inside.parents c.clear.new.parents long ∙ cleared)
