use Rattle.std.proofs.Common.{◌≡◌, ◌++◌}
use Rattle.std.specs.FinMap as map
use Rattle.kept_clusters.specs.inside.Looked.{marks_in_books}
use Rattle.kept_clusters.proofs.looking.list_marks.Given as goal

abbrev pub invariant-loop-number : goal.invariant-loop-number
invariant-loop-number l =
    l.marks ++ marks_in_books l.counts l.labels l.number-iterator
    ≡ marks_in_books l.counts l.labels (map.entries l.records.vectors)
