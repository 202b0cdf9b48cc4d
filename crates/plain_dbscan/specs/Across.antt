-- The marks that numbers have in two lists. No public contract cites these.
use Rattle.std.specs.Prelude.{ℕ, Bool, false, not, ◌&&◌, ◌==◌, Option, Some, None, List, filter}
use Rattle.std.specs.List.{list_any}
use Rattle.plain_dbscan.specs.declared.cases.BothMarks.{BothMarks}
use Rattle.plain_dbscan.specs.declared.marks.Mark.{Mark}
use Rattle.plain_dbscan.specs.Texts.{is_core_mark}
use Rattle.plain_dbscan.specs.Cases.{Listed, mark_in, is_core_of, is_member_of, clusters_of}

-- the mark of an entry, with that of its number in the other list
abbrev pub both_marks : Listed → ℕ × Mark → BothMarks
both_marks other m = record { here = m.1; there = mark_in other m.0 }

-- whether a number is core here and not there
abbrev pub is_core_alone : BothMarks → Bool
is_core_alone b = is_core_mark b.here && not (is_core_mark b.there)

-- the same, of the cluster with this label
abbrev pub is_core_alone_of : ℕ → BothMarks → Bool
is_core_alone_of l b = is_core_of l b.here && is_core_alone b

-- whether a number is a member of the one cluster here and a core of the other there
abbrev pub is_in_both : ℕ → ℕ → BothMarks → Bool
is_in_both l k b = is_member_of l b.here && is_core_of k b.there

-- whether a label is this one
abbrev pub is_label : ℕ → Option ℕ → Bool
is_label l None = false
is_label l (Some k) = k == l

-- the labels of clusters in a list that members of a cluster across have, rising
abbrev pub labels_in : List BothMarks → Listed → ℕ → List ℕ
labels_in both marks l = filter (λ k. list_any (is_in_both l k) both) (clusters_of marks)

-- the labels of clusters in a list that have a core which isn't core across, rising
abbrev pub changed_in : List BothMarks → Listed → List ℕ
changed_in both marks = filter (λ l. list_any (is_core_alone_of l) both) (clusters_of marks)
