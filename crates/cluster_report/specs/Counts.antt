-- The counts of a list of marks.
use Rattle.std.specs.Prelude.{ℕ, List, length, count_by}
use Rattle.plain_dbscan.specs.declared.marks.Mark.{Mark}
use Rattle.plain_dbscan.specs.Texts.{is_core_mark, is_border_mark, is_noise_mark, names_cluster}
use Rattle.cluster_report.specs.declared.counts.Summary.{Summary}

-- How many records there are, how many of them are cores, borders and noise, and how many clusters.
abbrev pub summary_of : List (ℕ × Mark) → Summary
summary_of marks = record {
  records = length marks;
  cores = count_by (λ (m : ℕ × Mark). is_core_mark m.1) marks;
  borders = count_by (λ (m : ℕ × Mark). is_border_mark m.1) marks;
  noise = count_by (λ (m : ℕ × Mark). is_noise_mark m.1) marks;
  clusters = count_by names_cluster marks;
}
