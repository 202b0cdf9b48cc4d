-- Whether what a store keeps of its clusters is what is due to its records.
use Rattle.std.specs.Prelude.{◌≡◌, ℕ, List, if◌then◌else◌, unwrap_or}
use Rattle.std.specs.List.{AllByRecursion}
use Rattle.std.specs.FinMap as maps
use Rattle.vec_record.specs.Held as held
use Rattle.vec_record.specs.Distance.{distance_of}
use Rattle.plain_dbscan.specs.Marks.{Density, Entries, density, is_core, size_of, cluster_of, anchor_of}
use Rattle.stored_lines.specs.declared.line.Line.{Line}
use Rattle.page_layout.specs.Heads.{Values}

-- how dense the clusters of a store with these parameters are
abbrev pub density_on : Values → Density
density_on v = density (distance_of v.metric) v.eps v.minpts

-- the line that is due to a record: the size of its neighbourhood, the least core near it where it isn't core, and its
-- label where it is
abbrev pub line_due : Density → Entries → ℕ → Line
line_due d entries a = record {
  number = a;
  count = size_of d entries a;
  anchor = unwrap_or (anchor_of d entries a) 0;
  label = if is_core d entries a then cluster_of d entries a else 0;
}

-- each line is the one that is due to its record
abbrev pub AreDue : Values → held.Rows → List Line → Type 0
AreDue v vectors lines =
    AllByRecursion (λ (line : Line). line ≡ line_due (density_on v) (maps.entries vectors) line.number) lines
