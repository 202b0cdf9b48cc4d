use Rattle.change_tests.proofs.tests.rows.star.Given as goal

abbrev pub ghosts-plays : goal.ghosts-plays
ghosts-plays g a = record { name = a.blank.name; parts = a.blank.parts }
