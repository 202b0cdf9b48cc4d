use Rattle.mtree_index.proofs.tests.a_tree_is_the_one_that_the_rules_give.Given as goal

abbrev pub ghosts-grown : goal.ghosts-grown
ghosts-grown l a = record { name = a.blank.name; parts = a.blank.parts }
