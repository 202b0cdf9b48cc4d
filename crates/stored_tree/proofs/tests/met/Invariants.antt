use Rattle.stored_tree.proofs.tests.met.Given as goal

abbrev pub ghosts-count_met : goal.ghosts-count_met
ghosts-count_met a = record { name = a.blank.name; parts = a.blank.parts }
