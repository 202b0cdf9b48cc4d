-- The texts of counts, of the members of a cluster and of a neighbourhood.
use Rattle.std.specs.Prelude.{◌≡◌, ℕ, List, [], ◌++◌, length, codes}
use Rattle.std.specs.Fmt.{decimal}
use Rattle.std.specs.List.{flat_map}
use Rattle.plain_dbscan.specs.declared.marks.Mark.{Mark}
use Rattle.plain_dbscan.specs.declared.marks.Mark.TheVariants.{Core, Border, Noise}
use Rattle.plain_dbscan.specs.Texts.{summary_text}
use Rattle.cluster_report.specs.declared.counts.Summary.{Summary}
use Rattle.cluster_report.specs.Counts.{summary_of}

-- The line of counts: `records N cores C borders B noise Z clusters K`.
abbrev pub counts_text : Summary → List ℕ
counts_text s =
    codes "records " ++ (decimal s.records ++ (codes " cores " ++ (decimal s.cores
    ++ (codes " borders " ++ (decimal s.borders ++ (codes " noise " ++ (decimal s.noise
    ++ (codes " clusters " ++ (decimal s.clusters ++ codes "\n")))))))))

-- The line of the counts of marks is their summary.
abbrev pub CountsAreTheSummary : Type 0
CountsAreTheSummary =
    (marks : List (ℕ × Mark)) → counts_text (summary_of marks) ≡ summary_text marks

-- The line of a member of a cluster: `N core` or `N border`. Noise is no member, and has no line.
abbrev pub member_text : ℕ → Mark → List ℕ
member_text a (Core l) = decimal a ++ codes " core\n"
member_text a (Border l) = decimal a ++ codes " border\n"
member_text a Noise = []

-- A line with the label of a cluster and its size, and then the line of each member.
abbrev pub members_text : ℕ → List (ℕ × Mark) → List ℕ
members_text label members =
    codes "cluster " ++ (decimal label
    ++ (codes " size " ++ (decimal (length members) ++ codes "\n")))
    ++ flat_map (λ (m : ℕ × Mark). member_text m.0 m.1) members

-- A line with a number and its size, and then a line for each number near it.
abbrev pub near_text : ℕ → List ℕ → List ℕ
near_text a near =
    codes "near " ++ (decimal a
    ++ (codes " size " ++ (decimal (length near) ++ codes "\n")))
    ++ flat_map (λ (b : ℕ). decimal b ++ codes "\n") near
