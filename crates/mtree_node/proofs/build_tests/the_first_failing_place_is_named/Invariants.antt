use Rattle.mtree_node.proofs.build_tests.the_first_failing_place_is_named.Given as goal

abbrev pub ghosts-built : goal.ghosts-built
ghosts-built l a = record { name = a.blank.name; parts = a.blank.parts }
