use Rattle.mtree_index.proofs.tests.a_leaf_with_too_few_joins_its_sibling.Given as goal

abbrev pub ghosts-equal_vectors_go : goal.ghosts-equal_vectors_go
ghosts-equal_vectors_go g a = record { name = a.blank.name; parts = a.blank.parts }
