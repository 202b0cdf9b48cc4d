-- What changes may cost one after another, by the number of records alone.
use Rattle.std.specs.Prelude.{ℕ, ◌+◌, List, [], ◌∷◌}
use Rattle.vec_record.specs.Held.{Held}
use Rattle.vec_record.specs.declared.change.Change.{Change}
use Rattle.vec_record.specs.declared.change.Change.TheVariants.{Insert, Delete}
use Rattle.plain_dbscan.specs.Marks.{Density}
use Rattle.kept_clusters.specs.Work.{insertion_work, deletion_work}
use Rattle.batch_text.specs.After.{changed}

-- the records with one change that can apply
abbrev pub held_after : Held → Change → Held
held_after records c = record records { vectors = changed records.vectors c }

-- the most distances of one change, whatever the tree
abbrev pub work_of : Density → Held → Change → ℕ
work_of d records (Insert n v) = insertion_work d records n v
work_of d records (Delete n) = deletion_work d records n

-- the most distances of changes in order
abbrev pub work_of_all : Density → Held → List Change → ℕ
work_of_all d records [] = 0
work_of_all d records (c ∷ cs) = work_of d records c + work_of_all d (held_after records c) cs
