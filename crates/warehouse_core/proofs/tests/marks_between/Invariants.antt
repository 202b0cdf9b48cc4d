use Rattle.warehouse_core.proofs.tests.marks_between.Given as goal

abbrev pub ghosts-marks_between_with : goal.ghosts-marks_between_with
ghosts-marks_between_with a = record { name = a.blank.name; parts = a.blank.parts }
