use Rattle.label_book.specs.inside.Steps.{IsRewritten}
use Rattle.label_book.proofs.growing.rewrite.Given as goal

abbrev pub invariant-loop-at : goal.invariant-loop-at
invariant-loop-at l = IsRewritten l.fn.places l.members l.cluster l.from l.at l.places
