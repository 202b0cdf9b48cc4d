use Rattle.std.proofs.Common.{◌≡◌, ◌<◌, not, drop, take, length}
use Rattle.std.specs.List.{AllByRecursion, filter}
use Rattle.node_refs.specs.Pages.{is_in}
use Rattle.node_refs.proofs.listing.unreached.Given as goal

abbrev pub invariant-loop-reference : goal.invariant-loop-reference
invariant-loop-reference l =
    (l.rest ≡ filter (λ r. not (is_in l.progress.refs r)) (take l.reference-index l.used))
    × AllByRecursion (λ r. r < length l.progress.table.items) (drop l.reference-index l.used)
