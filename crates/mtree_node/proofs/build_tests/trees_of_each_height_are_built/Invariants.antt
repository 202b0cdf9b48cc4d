use Rattle.mtree_node.proofs.build_tests.trees_of_each_height_are_built.Given as goal

abbrev pub ghosts-built : goal.ghosts-built
ghosts-built l a = record { name = a.blank.name; parts = a.blank.parts }
