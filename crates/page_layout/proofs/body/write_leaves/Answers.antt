use Rattle.std.proofs.Common.{◌∙◌, ℕ, List, [], ap, arith}
use Rattle.mtree_node.specs.Preorder.{LeafRow}
use Rattle.page_layout.specs.Leaves.{IsLeaf, leaf_page}
use Rattle.page_layout.proofs.Begun.{begun, begun_count, begun_each, begun_free, begun_more}
use Rattle.page_layout.proofs.body.write_leaves.Goals as goal

free_is : IsLeaf []
free_is = record { few = omega arith; each = tt }

pub loop-slot-preserved : goal.loop-slot-preserved
loop-slot-preserved c =
    let leaves : List (List LeafRow) = c.args.leaves.now in
    let k : ℕ = c.loop-slot.slot in
    c.fill_leaf.ensures (begun [] 63 leaves k)
    (record { count = begun_count [] 63 leaves c.requires.leaves.count k (omega arith); each = begun_each [] 63 leaves c.requires.leaves.count k IsLeaf free_is c.requires.leaves.each })
    (begun_free [] 63 leaves c.requires.leaves.count k (omega arith)) c.loop-slot.invariant
    ∙ ap leaf_page (begun_more [] 63 leaves c.requires.leaves.count k (omega arith) c.index-leaves-slot.result c.index-leaves-slot.is)
