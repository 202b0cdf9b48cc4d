use Rattle.mtree_index.proofs.shape_tests.trees_come_back_from_their_shapes.Given as goal

abbrev pub ghosts-comes_back : goal.ghosts-comes_back
ghosts-comes_back l a = record { name = a.blank.name; parts = a.blank.parts }
