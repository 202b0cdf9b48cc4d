use Rattle.int_metric.proofs.rows_tests.rows_of_each_width.Given as goal

abbrev pub ghosts-agrees : goal.ghosts-agrees
ghosts-agrees g a = record { name = a.blank.name; parts = a.blank.parts }

abbrev pub ghosts-agrees-2 : goal.ghosts-agrees-2
ghosts-agrees-2 g a = record { name = a.blank.name; parts = a.blank.parts }

abbrev pub ghosts-agrees-3 : goal.ghosts-agrees-3
ghosts-agrees-3 g a = record { name = a.blank.name; parts = a.blank.parts }
