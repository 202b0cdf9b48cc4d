use Rattle.std.proofs.Common.{◌<◌, ℕ, length, sym, subst, ◌∙◌, arith}
use Rattle.std.specs.List.{AllByRecursion}
use Rattle.node_refs.proofs.Used.{refs_below}
use Rattle.node_refs.proofs.listing.list_nodes.Goals as goal

pub unreached-requires-clause-inside : goal.unreached-requires-clause-inside
unreached-requires-clause-inside c =
    let most = length c.push_node.new.progress.table.items in
    let used = c.as_slice.ensures ∙ c.in_ok-used.ensures in
    subst (AllByRecursion (λ (r : ℕ). r < most)) (sym used) (refs_below 2 c.args.pages.now most c.requires.slots (omega (arith, c.in_ok-push_node.ensures.ready.table)))
