use Rattle.change_tests.proofs.tests.scrambled.striding.Given as goal

abbrev pub ghosts-comes_and_goes : goal.ghosts-comes_and_goes
ghosts-comes_and_goes g a = record { name = a.blank.name; parts = a.blank.parts }
