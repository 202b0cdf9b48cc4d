use Rattle.std.proofs.Common.{◌≡◌, ◌++◌, filter, ℕ}
use Rattle.std.specs.FinMap as map
use Rattle.plain_dbscan.specs.declared.marks.Mark.{Mark}
use Rattle.plain_dbscan.specs.Cases.{is_member_of}
use Rattle.kept_clusters.specs.inside.Looked.{marks_in_books}
use Rattle.kept_clusters.proofs.looking.list_members.Given as goal

abbrev pub invariant-loop-number : goal.invariant-loop-number
invariant-loop-number l =
    l.members ++ filter (λ (m : ℕ × Mark). is_member_of l.label m.1) (marks_in_books l.counts l.labels l.number-iterator)
    ≡ filter (λ (m : ℕ × Mark). is_member_of l.label m.1) (marks_in_books l.counts l.labels (map.entries l.records.vectors))
