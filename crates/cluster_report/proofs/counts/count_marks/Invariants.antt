use Rattle.std.proofs.Common.{◌≡◌, List, count_by, take, ℕ}
use Rattle.plain_dbscan.specs.declared.marks.Mark.{Mark}
use Rattle.plain_dbscan.specs.Texts.{is_core_mark, is_border_mark, is_noise_mark, names_cluster}
use Rattle.cluster_report.proofs.counts.count_marks.Given as goal

-- what is counted of the marks so far
pub record AreCounted (seen : List (ℕ × Mark)) (cores borders noise clusters : ℕ) : Type 0 where
  pub cores_are : cores ≡ count_by (λ (m : ℕ × Mark). is_core_mark m.1) seen
  pub borders_are : borders ≡ count_by (λ (m : ℕ × Mark). is_border_mark m.1) seen
  pub noise_is : noise ≡ count_by (λ (m : ℕ × Mark). is_noise_mark m.1) seen
  pub clusters_are : clusters ≡ count_by names_cluster seen

abbrev pub invariant-loop-number : goal.invariant-loop-number
invariant-loop-number l = AreCounted (take l.number-index l.marks) l.cores l.borders l.noise l.clusters
