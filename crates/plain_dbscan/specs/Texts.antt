-- The texts of a report, as functions of the marks.
use Rattle.std.specs.Prelude.{ℕ, Bool, true, false, List, ◌++◌, ◌==◌, length, count_by, codes}
use Rattle.std.specs.Fmt.{decimal}
use Rattle.std.specs.List.{flat_map}
use Rattle.plain_dbscan.specs.declared.marks.Mark.{Mark}
use Rattle.plain_dbscan.specs.declared.marks.Mark.TheVariants.{Core, Border, Noise}

-- The line of a number: `N core L`, `N border L` or `N noise`.
abbrev pub label_text : ℕ → Mark → List ℕ
label_text a (Core l) = decimal a ++ (codes " core " ++ (decimal l ++ codes "\n"))
label_text a (Border l) = decimal a ++ (codes " border " ++ (decimal l ++ codes "\n"))
label_text a Noise = decimal a ++ codes " noise\n"

abbrev pub is_core_mark : Mark → Bool
is_core_mark (Core l) = true
is_core_mark (Border l) = false
is_core_mark Noise = false

abbrev pub is_border_mark : Mark → Bool
is_border_mark (Core l) = false
is_border_mark (Border l) = true
is_border_mark Noise = false

abbrev pub is_noise_mark : Mark → Bool
is_noise_mark (Core l) = false
is_noise_mark (Border l) = false
is_noise_mark Noise = true

-- Whether a number is a core that is its own label. Each cluster has one such core.
abbrev pub names_cluster : ℕ × Mark → Bool
names_cluster (a, Core l) = a == l
names_cluster (a, Border l) = false
names_cluster (a, Noise) = false

-- The counts of all marks: `records N cores C borders B noise Z clusters K`.
abbrev pub summary_text : List (ℕ × Mark) → List ℕ
summary_text marks =
    codes "records " ++ (decimal (length marks) ++ (codes " cores " ++ (decimal (count_by (λ (m : ℕ × Mark). is_core_mark m.1) marks)
    ++ (codes " borders " ++ (decimal (count_by (λ (m : ℕ × Mark). is_border_mark m.1) marks) ++ (codes " noise " ++ (decimal (count_by (λ (m : ℕ × Mark). is_noise_mark m.1) marks)
    ++ (codes " clusters " ++ (decimal (count_by names_cluster marks) ++ codes "\n")))))))))

-- The line of each number, and then the counts.
abbrev pub report_text : List (ℕ × Mark) → List ℕ
report_text marks = flat_map (λ (m : ℕ × Mark). label_text m.0 m.1) marks ++ summary_text marks
