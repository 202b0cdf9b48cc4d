use Rattle.std.proofs.Common.{◌≡◌, ◌+◌, ◌≤◌, ◌++◌, length, map, drop}
use Rattle.std.specs.List.{AllByRecursion}
use Rattle.mtree_index.specs.Split.{row}
use Rattle.mtree_index.proofs.split.push_row.Given as goal

abbrev pub invariant-loop-entry : goal.invariant-loop-entry
invariant-loop-entry g l =
    let object = g.E.Entry.object in
    (l.matrix.items ++ row g.M.Metric.dist l.object (map object (drop l.entry-index l.entries)) ≡ l.fn.matrix.items ++ row g.M.Metric.dist l.object (map object l.entries))
    × (l.steps ≤ l.fn.steps + l.entry-index)
    × AllByRecursion (λ e. length (object e) ≡ length l.object) (drop l.entry-index l.entries)
