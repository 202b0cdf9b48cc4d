use Rattle.warehouse_core.proofs.tests.stopped.Given as goal

abbrev pub ghosts-stopped_with : goal.ghosts-stopped_with
ghosts-stopped_with a = record { name = a.blank.name; parts = a.blank.parts }
