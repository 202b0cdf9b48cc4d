use Rattle.std.proofs.Common.{subst}
use Rattle.label_book.specs.Labels.{HasLeast}
use Rattle.label_book.proofs.Views.{has_least}
use Rattle.label_book.proofs.laws.labels_are_least.Goals as goal

pub returns : goal.returns
returns c = subst HasLeast c.book.view_is (has_least c.book.inside.places c.book.inside.clusters c.book.invariant)
