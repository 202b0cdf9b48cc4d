use Rattle.std.proofs.Common.{ap, ◌∙◌}
use Rattle.std.specs.FinMap as map
use Rattle.kept_clusters.specs.inside.Looked.{mark_in_books, marks_in_books}
use Rattle.kept_clusters.proofs.Listing.{counted_all, listed_many}
use Rattle.kept_clusters.proofs.looking.count_marks.Goals as goal

pub returns : goal.returns
returns c =
    let counts = c.args.counts.now in
    let labels = c.args.labels.now in
    let rows = c.args.records.now.vectors in
    counted_all (marks_in_books counts labels c.loop-number.number-iterator) (marks_in_books counts labels (map.entries rows)) _ _ _ _ _
    (ap (marks_in_books counts labels) c.in-None.ensures.steps.0) c.loop-number.invariant (c.len-total.ensures ∙ listed_many (mark_in_books counts labels) rows)
