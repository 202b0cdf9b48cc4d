use Rattle.change_tests.proofs.tests.classes.classes.Given as goal

abbrev pub ghosts-scrambles : goal.ghosts-scrambles
ghosts-scrambles g a = record { name = a.blank.name; parts = a.blank.parts }
