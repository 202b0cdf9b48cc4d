use Rattle.std.specs.FinMap as map
use Rattle.kept_clusters.specs.inside.Looked.{marks_in_books}
use Rattle.kept_clusters.proofs.Listing.{AreCounted}
use Rattle.kept_clusters.proofs.looking.count_marks.Given as goal

abbrev pub invariant-loop-number : goal.invariant-loop-number
invariant-loop-number l =
    AreCounted (marks_in_books l.counts l.labels l.number-iterator) (marks_in_books l.counts l.labels (map.entries l.records.vectors))
    l.cores l.borders l.noise l.clusters
