use Rattle.std.proofs.Common.{◌≡◌, ◌*◌, ◌++◌}
use Rattle.std.specs.List.{range_with_len}
use Rattle.node_places.proofs.refs.add_page.Given as goal

abbrev pub invariant-loop-slot : goal.invariant-loop-slot
invariant-loop-slot l = l.refs.items ≡ l.fn.refs.items ++ range_with_len (64 * l.page) l.slot
