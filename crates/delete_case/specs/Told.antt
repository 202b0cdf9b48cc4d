-- What is told of a deletion.
use Rattle.std.specs.Prelude.{◌≡◌, List, ◌++◌}
use Rattle.std.specs.FinMap as map
use Rattle.vec_record.specs.Held.{Rows}
use Rattle.vec_record.specs.declared.event.Event.{Event}
use Rattle.plain_dbscan.specs.Cases.{deletion_events, cases_of}
use Rattle.plain_dbscan.specs.Marks.{Density, marks_of}

-- What is told is exactly the events of a deletion, by the marks before and after.
abbrev pub AreEventsTold : Density → Rows → Rows → List Event → List Event → Type 0
AreEventsTold d rows rows' before after =
    let told = deletion_events (marks_of d (map.entries rows)) (marks_of d (map.entries rows')) in
    after ≡ before ++ told

-- The same by the one rule for every change, be it an insertion or a deletion.
abbrev pub AreCasesTold : Density → Rows → Rows → List Event → List Event → Type 0
AreCasesTold d rows rows' before after =
    after ≡ before ++ cases_of (marks_of d (map.entries rows)) (marks_of d (map.entries rows'))
