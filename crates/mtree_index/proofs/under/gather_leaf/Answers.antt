use Rattle.std.proofs.Common.{◌≡◌, ◌∙◌, sym, subst, length}
use Rattle.mtree_node.specs.Lists.{HaveVectorsOf}
use Rattle.mtree_index.proofs.Leaves.{under_keeps}
use Rattle.mtree_index.proofs.under.gather_leaf.Goals as goal

pub from_slice-requires-clause-vectors : goal.from_slice-requires-clause-vectors
from_slice-requires-clause-vectors g c =
    let w = length c.args.object.now in
    let same : c.from_vec-all.result ≡ c.args.entries.now = c.from_vec-all.ensures ∙ c.in_ok-to_vec.ensures in
    let have : HaveVectorsOf w c.from_vec-all.result = subst (HaveVectorsOf w) (sym same) c.requires.vectors in
    let under = under_keeps g.M.Metric.dist w c.args.object.now c.from_vec-all.result have in
    rw (c.as_slice.ensures.value, c.as_slice-2.ensures, c.gather-radius.ensures.moved) under
