-- Worked rows, computed from the definitions alone.
use Rattle.std.proofs.Common.{◌≡◌, ℕ, List, [], ◌∷◌, codes, refl}
use Rattle.vec_record.specs.declared.event.Event.{Event}
use Rattle.std.specs.Fmt.{digits}
use Rattle.vec_record.specs.Distance.{sum_apart}
use Rattle.vec_record.specs.declared.event.Kind.TheVariants as kind
use Rattle.plain_dbscan.specs.Marks.{Entries, density, marks_of}
use Rattle.plain_dbscan.specs.Texts.{report_text}
use Rattle.plain_dbscan.specs.Cases.{event, cases_of}
use Rattle.plain_dbscan.specs.declared.marks.Mark.TheVariants.{Core, Border, Noise}

-- two near each other, and one far off
pair_and_noise : marks_of (density sum_apart 1 2) ((1, 0 ∷ []) ∷ (2, 1 ∷ []) ∷ (3, 9 ∷ []) ∷ []) ≡ (1, Core 1) ∷ (2, Core 1) ∷ (3, Noise) ∷ []
pair_and_noise = refl

-- equal vectors are one cluster at eps 0
equal_vectors : marks_of (density sum_apart 0 1) ((3, 5 ∷ []) ∷ (7, 5 ∷ []) ∷ []) ≡ (3, Core 3) ∷ (7, Core 3) ∷ []
equal_vectors = refl

-- two clusters with a border between, which the least core near it takes
two_clusters : marks_of (density sum_apart 1 4) ((1, 8 ∷ []) ∷ (2, 8 ∷ []) ∷ (3, 9 ∷ []) ∷ (4, 11 ∷ []) ∷ (5, 12 ∷ []) ∷ (6, 12 ∷ []) ∷ (7, 10 ∷ []) ∷ []) ≡ (1, Border 3) ∷ (2, Border 3) ∷ (3, Core 3) ∷ (4, Core 4) ∷ (5, Border 4) ∷ (6, Border 4) ∷ (7, Border 3) ∷ []
two_clusters = refl

-- no core at all
no_cores : marks_of (density sum_apart 1 3) ((1, 0 ∷ []) ∷ (2, 1 ∷ []) ∷ []) ≡ (1, Noise) ∷ (2, Noise) ∷ []
no_cores = refl

-- a chain whose least core comes last in it
chain_back : marks_of (density sum_apart 1 2) ((1, 4 ∷ []) ∷ (2, 2 ∷ []) ∷ (3, 3 ∷ []) ∷ (4, 1 ∷ []) ∷ []) ≡ (1, Core 1) ∷ (2, Core 1) ∷ (3, Core 1) ∷ (4, Core 1) ∷ []
chain_back = refl

pair_text : report_text ((1, Core 1) ∷ (2, Core 1) ∷ (3, Noise) ∷ []) ≡ codes "1 core 1\n2 core 1\n3 noise\nrecords 3 cores 2 borders 0 noise 1 clusters 1\n"
unfolding digits
pair_text = refl

border_text : report_text ((1, Border 12) ∷ (12, Core 12) ∷ []) ≡ codes "1 border 12\n12 core 12\nrecords 2 cores 1 borders 1 noise 0 clusters 1\n"
unfolding digits
border_text = refl

empty_text : report_text [] ≡ codes "records 0 cores 0 borders 0 noise 0 clusters 0\n"
unfolding digits
empty_text = refl

-- the events of one change of the records, with distances on a line
abbrev events_of : ℕ → ℕ → Entries → Entries → List Event
events_of eps minpts before after = cases_of (marks_of (density sum_apart eps minpts) before) (marks_of (density sum_apart eps minpts) after)

-- a record alone is noise
first_record : events_of 1 2 [] ((1, 0 ∷ []) ∷ []) ≡ event kind.Noise 0 1 ∷ []
unfolding cases_of
first_record = refl

-- two near each other are a new cluster
pair_created : events_of 1 2 ((1, 0 ∷ []) ∷ []) ((1, 0 ∷ []) ∷ (2, 1 ∷ []) ∷ []) ≡ event kind.Created 0 1 ∷ []
unfolding cases_of
pair_created = refl

-- a third one joins it
third_absorbed : events_of 1 2 ((1, 0 ∷ []) ∷ (2, 1 ∷ []) ∷ []) ((1, 0 ∷ []) ∷ (2, 1 ∷ []) ∷ (3, 2 ∷ []) ∷ []) ≡ event kind.Absorbed 1 1 ∷ []
unfolding cases_of
third_absorbed = refl

-- a record between two clusters merges them
pairs_merged : events_of 1 2 ((1, 0 ∷ []) ∷ (2, 1 ∷ []) ∷ (4, 3 ∷ []) ∷ (5, 4 ∷ []) ∷ []) ((1, 0 ∷ []) ∷ (2, 1 ∷ []) ∷ (3, 2 ∷ []) ∷ (4, 3 ∷ []) ∷ (5, 4 ∷ []) ∷ []) ≡ event kind.Merged 1 1 ∷ event kind.Merged 4 1 ∷ []
unfolding cases_of
pairs_merged = refl

-- its deletion splits the row
row_split : events_of 1 2 ((1, 0 ∷ []) ∷ (2, 1 ∷ []) ∷ (3, 2 ∷ []) ∷ (4, 3 ∷ []) ∷ (5, 4 ∷ []) ∷ []) ((1, 0 ∷ []) ∷ (2, 1 ∷ []) ∷ (4, 3 ∷ []) ∷ (5, 4 ∷ []) ∷ []) ≡ event kind.Split 1 1 ∷ event kind.Split 1 4 ∷ []
unfolding cases_of
row_split = refl

-- where three make a core, it ends the cluster, whose label is 2
row_removed : events_of 1 3 ((1, 0 ∷ []) ∷ (2, 1 ∷ []) ∷ (3, 2 ∷ []) ∷ (4, 3 ∷ []) ∷ (5, 4 ∷ []) ∷ []) ((1, 0 ∷ []) ∷ (2, 1 ∷ []) ∷ (4, 3 ∷ []) ∷ (5, 4 ∷ []) ∷ []) ≡ event kind.Removed 2 0 ∷ []
unfolding cases_of
row_removed = refl

-- a record that is no core makes a core on either side
both_created : events_of 1 4 ((1, 8 ∷ []) ∷ (2, 8 ∷ []) ∷ (3, 9 ∷ []) ∷ (4, 11 ∷ []) ∷ (5, 12 ∷ []) ∷ (6, 12 ∷ []) ∷ []) ((1, 8 ∷ []) ∷ (2, 8 ∷ []) ∷ (3, 9 ∷ []) ∷ (4, 11 ∷ []) ∷ (5, 12 ∷ []) ∷ (6, 12 ∷ []) ∷ (7, 10 ∷ []) ∷ []) ≡ event kind.Created 0 3 ∷ event kind.Created 0 4 ∷ []
unfolding cases_of
both_created = refl

-- its deletion ends both clusters
both_removed : events_of 1 4 ((1, 8 ∷ []) ∷ (2, 8 ∷ []) ∷ (3, 9 ∷ []) ∷ (4, 11 ∷ []) ∷ (5, 12 ∷ []) ∷ (6, 12 ∷ []) ∷ (7, 10 ∷ []) ∷ []) ((1, 8 ∷ []) ∷ (2, 8 ∷ []) ∷ (3, 9 ∷ []) ∷ (4, 11 ∷ []) ∷ (5, 12 ∷ []) ∷ (6, 12 ∷ []) ∷ []) ≡ event kind.Removed 3 0 ∷ event kind.Removed 4 0 ∷ []
unfolding cases_of
both_removed = refl

-- the deletion of a border ends one of them, and the other takes the border between
one_removed : events_of 1 4 ((1, 8 ∷ []) ∷ (2, 8 ∷ []) ∷ (3, 9 ∷ []) ∷ (4, 11 ∷ []) ∷ (5, 12 ∷ []) ∷ (6, 12 ∷ []) ∷ (7, 10 ∷ []) ∷ []) ((2, 8 ∷ []) ∷ (3, 9 ∷ []) ∷ (4, 11 ∷ []) ∷ (5, 12 ∷ []) ∷ (6, 12 ∷ []) ∷ (7, 10 ∷ []) ∷ []) ≡ event kind.Removed 3 0 ∷ []
unfolding cases_of
one_removed = refl

-- a cluster that loses its least core has another label
label_reduced : events_of 1 2 ((1, 0 ∷ []) ∷ (2, 0 ∷ []) ∷ (3, 1 ∷ []) ∷ []) ((2, 0 ∷ []) ∷ (3, 1 ∷ []) ∷ []) ≡ event kind.Reduced 1 2 ∷ []
unfolding cases_of
label_reduced = refl

-- the last record of a cluster
last_removed : events_of 0 1 ((5, 0 ∷ []) ∷ []) [] ≡ event kind.Removed 5 0 ∷ []
unfolding cases_of
last_removed = refl

-- a deletion that loses no core has no event
noise_deleted : events_of 1 2 ((1, 0 ∷ []) ∷ (2, 1 ∷ []) ∷ (3, 9 ∷ []) ∷ []) ((1, 0 ∷ []) ∷ (2, 1 ∷ []) ∷ []) ≡ []
unfolding cases_of
noise_deleted = refl

-- a border that makes no new core
border_inserted : events_of 1 4 ((1, 0 ∷ []) ∷ (2, 0 ∷ []) ∷ (3, 0 ∷ []) ∷ (4, 1 ∷ []) ∷ []) ((1, 0 ∷ []) ∷ (2, 0 ∷ []) ∷ (3, 0 ∷ []) ∷ (4, 1 ∷ []) ∷ (5, 2 ∷ []) ∷ []) ≡ event kind.Noise 0 5 ∷ []
unfolding cases_of
border_inserted = refl
