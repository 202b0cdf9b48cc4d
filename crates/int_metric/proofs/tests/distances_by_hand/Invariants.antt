use Rattle.int_metric.proofs.tests.distances_by_hand.Given as goal

abbrev pub ghosts-measured : goal.ghosts-measured
ghosts-measured g a = record { name = a.blank.name; parts = a.blank.parts }

abbrev pub ghosts-measured-2 : goal.ghosts-measured-2
ghosts-measured-2 g a = record { name = a.blank.name; parts = a.blank.parts }

abbrev pub ghosts-measured-3 : goal.ghosts-measured-3
ghosts-measured-3 g a = record { name = a.blank.name; parts = a.blank.parts }
