use Rattle.std.proofs.Common.{◌≡◌, get_or}
use Rattle.node_places.specs.Nodes.{pages_from}
use Rattle.store_image.proofs.LoadFinding.{pages_at}
use Rattle.store_image.proofs.finding.record_page.Given as goal

abbrev pub invariant-loop-i : goal.invariant-loop-i
invariant-loop-i l = get_or (pages_from 1 2 l.kinds) l.place 0 ≡ get_or (pages_at l.kinds l.i) l.left 0
