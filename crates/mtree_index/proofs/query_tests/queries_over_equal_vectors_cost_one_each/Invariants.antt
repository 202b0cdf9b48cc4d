use Rattle.mtree_index.proofs.query_tests.queries_over_equal_vectors_cost_one_each.Given as goal

abbrev pub ghosts-with_steps : goal.ghosts-with_steps
ghosts-with_steps c a = record { name = a.blank.name; parts = a.blank.parts }
