use Rattle.mtree_index.proofs.tests.equal_vectors_are_parted_in_turns.Given as goal

abbrev pub ghosts-grown : goal.ghosts-grown
ghosts-grown l a = record { name = a.blank.name; parts = a.blank.parts }
