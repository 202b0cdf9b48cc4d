use Rattle.warehouse_core.proofs.tests.count_due.Given as goal

abbrev pub ghosts-count_due_with : goal.ghosts-count_due_with
ghosts-count_due_with a = record { name = a.blank.name; parts = a.blank.parts }
