use Rattle.change_tests.proofs.tests.groups.chain.Given as goal

abbrev pub ghosts-halves : goal.ghosts-halves
ghosts-halves g a = record { name = a.blank.name; parts = a.blank.parts }
