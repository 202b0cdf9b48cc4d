use Rattle.std.proofs.Common.{arith, rules}
use Rattle.mtree_node.proofs.Columns.{seen_length, seen_removed}
use Rattle.mtree_node.proofs.leaf_entries.LeafEntries.remove.Goals as goal

pub remove-requires : goal.remove-requires
remove-requires c = omega (arith, c.requires, c.self.invariant.0, seen_length _ _ _ _ c.self.view_is c.self.invariant.0 c.self.invariant.1)

pub returns : goal.returns
returns c =
    rw (c.remove.ensures.items, c.remove-2.ensures.items, c.remove_at.ensures) (seen_removed _ _ _ _ c.self.view_is c.self.invariant.0 c.self.invariant.1 c.args.at c.requires)
