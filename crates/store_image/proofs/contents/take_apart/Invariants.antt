use Rattle.std.proofs.Common.{◌≡◌, ◌++◌, reverse, vec_len}
use Rattle.store_image.specs.Contents.{kinds_of, all_slots, node_pages}
use Rattle.store_image.proofs.contents.take_apart.Given as goal

abbrev pub invariant-loop-body : goal.invariant-loop-body
invariant-loop-body l = record {
  kinds : kinds_of l.fn.bodies.items ≡ l.contents.kinds.items ++ kinds_of (reverse l.left.items);
  slots : all_slots l.fn.bodies.items ≡ l.contents.slots.items ++ all_slots (reverse l.left.items);
  nodes : node_pages l.fn.bodies.items ≡ l.contents.nodes.items ++ node_pages (reverse l.left.items);
}

abbrev pub decreases-loop-body : goal.decreases-loop-body
decreases-loop-body l = vec_len l.left
