use Rattle.kept_clusters.proofs.tests.two_clusters_and_a_border.Given as goal

abbrev pub ghosts-plays : goal.ghosts-plays
ghosts-plays g a = record { name = a.blank.name; parts = a.blank.parts }
