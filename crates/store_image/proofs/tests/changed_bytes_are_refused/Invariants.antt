use Rattle.store_image.proofs.tests.changed_bytes_are_refused.Given as goal

abbrev pub ghosts-are_answered : goal.ghosts-are_answered
ghosts-are_answered g a = record { name = a.blank.name; parts = a.blank.parts }
