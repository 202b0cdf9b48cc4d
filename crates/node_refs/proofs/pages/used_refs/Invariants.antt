use Rattle.std.proofs.Common.{◌≡◌, ◌++◌, drop}
use Rattle.std.specs.List.{AllByRecursion}
use Rattle.node_refs.specs.Pages.{used_refs, HasSlots}
use Rattle.node_refs.proofs.Used.{pages_from}
use Rattle.node_refs.proofs.pages.used_refs.Given as goal

abbrev pub invariant-loop-i : goal.invariant-loop-i
invariant-loop-i l = (l.refs ++ pages_from l.pages l.i ≡ used_refs l.pages) × AllByRecursion HasSlots (drop l.i l.pages)
