use Rattle.mtree_index.proofs.query_tests.table_holds.Given as goal

abbrev pub ghosts-grown : goal.ghosts-grown
ghosts-grown g a = record { name = a.blank.name; parts = a.blank.parts }
