use Rattle.mtree_index.proofs.query_tests.equal_costs.Given as goal

abbrev pub ghosts-grown : goal.ghosts-grown
ghosts-grown g a = record { name = a.blank.name; parts = a.blank.parts }
