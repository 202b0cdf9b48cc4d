-- The counts of marks: what is counted so far, beside what is left, and in the end.
use Rattle.std.proofs.Common.{◌≡◌, ℕ, ◌+◌, Bool, List, [], map, length, count_by, sym, ap, ◌∙◌, arith}
use Rattle.std.specs.FinMap as finite
use Rattle.std.proofs.lemmas.List.{length-map}
use Rattle.vec_record.specs.Held.{Rows}
use Rattle.plain_dbscan.specs.declared.marks.Mark.{Mark}
use Rattle.plain_dbscan.specs.Marks.{numbers_of}
use Rattle.cluster_report.specs.Counts.{summary_of}
use Rattle.cluster_report.specs.declared.counts.Summary.{Summary}
use Rattle.plain_dbscan.specs.Texts.{is_core_mark, is_border_mark, is_noise_mark, names_cluster}

-- what is counted and what is left come to all
pub record AreCounted
    (left all : List (ℕ × Mark)) (cores borders noise clusters : ℕ) : Type 0 where
  pub cores_are : cores + count_by (λ (m : ℕ × Mark). is_core_mark m.1) left ≡ count_by (λ (m : ℕ × Mark). is_core_mark m.1) all
  pub borders_are : borders + count_by (λ (m : ℕ × Mark). is_border_mark m.1) left ≡ count_by (λ (m : ℕ × Mark). is_border_mark m.1) all
  pub noise_is : noise + count_by (λ (m : ℕ × Mark). is_noise_mark m.1) left ≡ count_by (λ (m : ℕ × Mark). is_noise_mark m.1) all
  pub clusters_are : clusters + count_by names_cluster left ≡ count_by names_cluster all

-- where nothing is left, these are the counts of all
none_left : (p : ℕ × Mark → Bool) (left all : List (ℕ × Mark)) (n : ℕ) → left ≡ [] → n + count_by p left ≡ count_by p all → n ≡ count_by p all
none_left p left all n e h = let z : count_by p left ≡ 0 = ap (count_by p) e in omega (arith, h, z)

pub counted_all : (left all : List (ℕ × Mark)) (total cores borders noise clusters : ℕ) → left ≡ [] → AreCounted left all cores borders noise clusters → total ≡ length all →
    ◌≡◌ {A = Summary} (record { records = total; cores = cores; borders = borders; noise = noise; clusters = clusters }) (summary_of all)
counted_all left all total cores borders noise clusters e are many =
    let a = none_left (λ (m : ℕ × Mark). is_core_mark m.1) left all cores e are.cores_are in
    let b = none_left (λ (m : ℕ × Mark). is_border_mark m.1) left all borders e are.borders_are in
    let c = none_left (λ (m : ℕ × Mark). is_noise_mark m.1) left all noise e are.noise_is in
    let d = none_left names_cluster left all clusters e are.clusters_are in
    λ i. record { records = many i; cores = a i; borders = b i; noise = c i; clusters = d i }

-- there are as many marks as records
pub listed_many : (f : ℕ → Mark) (rows : Rows) → finite.len rows ≡ length {A = ℕ × Mark} (map (λ (a : ℕ). (a, f a)) (numbers_of (finite.entries rows)))
listed_many f rows =
    finite.len-entries rows ∙ sym (length-map (finite.entries rows) (λ (e : ℕ × List ℕ). e.0)) ∙ sym (length-map (numbers_of (finite.entries rows)) (λ (a : ℕ). (a, f a)))
