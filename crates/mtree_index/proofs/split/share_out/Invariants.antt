use Rattle.std.proofs.Common.{◌≡◌, ◌++◌, true, false, drop}
use Rattle.mtree_index.specs.Split.{on_side, with_parents}
use Rattle.mtree_index.proofs.split.share_out.Given as goal

abbrev pub invariant-loop-k : goal.invariant-loop-k
invariant-loop-k g l =
    let set = g.E.Entry.with_parent in
    let k = l.k-iterator.count in
    let rest = l.k-iterator.iter.rest.items in
    (rest ≡ drop k l.fn.entries.items)
    × (l.left ++ on_side false (drop k l.sides) (with_parents set (drop k l.left_row) rest) ≡ on_side false l.sides (with_parents set l.left_row l.fn.entries.items))
    × (l.right ++ on_side true (drop k l.sides) (with_parents set (drop k l.right_row) rest) ≡ on_side true l.sides (with_parents set l.right_row l.fn.entries.items))
