use Rattle.change_tests.proofs.tests.groups.groups.Given as goal

abbrev pub ghosts-grows : goal.ghosts-grows
ghosts-grows g a = record { name = a.blank.name; parts = a.blank.parts }
