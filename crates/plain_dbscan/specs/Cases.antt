-- The events of one change, from the clusters before it and after it alone.
use Rattle.std.specs.Prelude.{ℕ, Bool, false, not, ◌&&◌, ◌==◌, nat_lt, List, [], ◌∷◌, length, Option, Some, None, is_none, unwrap_or, if◌then◌else◌, find, filter, map}
use Rattle.std.specs.List.{list_any, flat_map}
use Rattle.vec_record.specs.declared.event.Event.{Event}
use Rattle.vec_record.specs.declared.event.Kind.{Kind}
use Rattle.vec_record.specs.declared.event.Kind.TheVariants as kind
use Rattle.plain_dbscan.specs.declared.marks.Mark.{Mark}
use Rattle.plain_dbscan.specs.declared.marks.Mark.TheVariants.{Core, Border, Noise}
use Rattle.plain_dbscan.specs.Texts.{is_core_mark, names_cluster}

-- Numbers with their marks, by rising number.
abbrev pub Listed : Type 0
Listed = List (ℕ × Mark)

-- The mark that a list gives a number, or none where it hasn't the number.
abbrev pub mark_at : Listed → ℕ → Option Mark
mark_at [] a = None
mark_at (m ∷ rest) a = if m.0 == a then Some m.1 else mark_at rest a

-- The same, where a number that isn't there counts as noise.
abbrev pub mark_in : Listed → ℕ → Mark
mark_in marks a = unwrap_or (mark_at marks a) Noise

-- Whether a mark is that of a core of the cluster with this label.
abbrev pub is_core_of : ℕ → Mark → Bool
is_core_of l (Core k) = k == l
is_core_of l (Border k) = false
is_core_of l Noise = false

-- Whether a mark is that of a member of the cluster with this label, a core or a border.
abbrev pub is_member_of : ℕ → Mark → Bool
is_member_of l (Core k) = k == l
is_member_of l (Border k) = k == l
is_member_of l Noise = false

-- The labels of the clusters, rising: the cores that are their own labels.
abbrev pub clusters_of : Listed → List ℕ
clusters_of marks = map (λ (m : ℕ × Mark). m.0) (filter names_cluster marks)

-- Whether a number with its mark in one list is core there and not core in the other list. Such a
-- number is a new core where the one list is that after the change, else a lost core.
abbrev pub is_core_here_alone : Listed → ℕ × Mark → Bool
is_core_here_alone other m = is_core_mark m.1 && not (is_core_mark (mark_in other m.0))

-- The labels of the clusters of one list that have a core which isn't core in the other list, rising.
abbrev pub changed_clusters : Listed → Listed → List ℕ
changed_clusters one other = filter (λ l. list_any (λ (m : ℕ × Mark). is_core_of l m.1 && is_core_here_alone other m) one) (clusters_of one)

-- Of the cluster with this label in one list, the members that are core in the other list: the labels
-- that they have there, rising, each once.
abbrev pub labels_across : Listed → Listed → ℕ → List ℕ
labels_across one other l = filter (λ k. list_any (λ (m : ℕ × Mark). is_member_of l m.1 && is_core_of k (mark_in other m.0)) one) (clusters_of other)

-- The first number of one list that the other list hasn't.
abbrev pub new_number : Listed → Listed → ℕ
new_number one other = unwrap_or (find (λ a. is_none (mark_at other a)) (map (λ (m : ℕ × Mark). m.0) one)) 0

abbrev pub event : Kind → ℕ → ℕ → Event
event k old new = record { kind = k; from = old; to = new }

-- What happened to a cluster with a new core, given its old labels.
abbrev pub growth : ℕ → List ℕ → List Event
growth l [] = event kind.Created 0 l ∷ []
growth l (k ∷ []) = event kind.Absorbed k l ∷ []
growth l (k ∷ j ∷ rest) = map (λ o. event kind.Merged o l) (k ∷ j ∷ rest)

-- What happened to a cluster with a lost core, given its new labels.
abbrev pub decline : ℕ → List ℕ → List Event
decline l [] = event kind.Removed l 0 ∷ []
decline l (k ∷ []) = event kind.Reduced l k ∷ []
decline l (k ∷ j ∷ rest) = map (event kind.Split l) (k ∷ j ∷ rest)

-- The events of an insertion: those of each cluster with a new core, or noise where there is no new core.
abbrev pub insertion_events : Listed → Listed → List Event
insertion_events before after =
    if list_any (is_core_here_alone before) after
    then flat_map (λ l. growth l (labels_across after before l)) (changed_clusters after before)
    else event kind.Noise 0 (new_number after before) ∷ []

-- The events of a deletion: those of each cluster with a lost core.
abbrev pub deletion_events : Listed → Listed → List Event
deletion_events before after = flat_map (λ l. decline l (labels_across before after l)) (changed_clusters before after)

-- The events of the change from the marks before to the marks after. It is an insertion where the
-- latter list is the longer one, else a deletion.
unfoldable pub cases_of : Listed → Listed → List Event
cases_of before after = if nat_lt (length before) (length after) then insertion_events before after else deletion_events before after
