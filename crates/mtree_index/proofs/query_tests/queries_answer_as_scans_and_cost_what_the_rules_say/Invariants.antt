use Rattle.mtree_index.proofs.query_tests.queries_answer_as_scans_and_cost_what_the_rules_say.Given as goal

abbrev pub ghosts-table_with_steps : goal.ghosts-table_with_steps
ghosts-table_with_steps c a = record { name = a.blank.name; parts = a.blank.parts }
