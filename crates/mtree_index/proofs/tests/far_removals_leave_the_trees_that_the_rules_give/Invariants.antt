use Rattle.mtree_index.proofs.tests.far_removals_leave_the_trees_that_the_rules_give.Given as goal

abbrev pub ghosts-run_goes : goal.ghosts-run_goes
ghosts-run_goes g a = record { name = a.blank.name; parts = a.blank.parts }
