use Rattle.std.proofs.Common.{sym, subst}
use Rattle.label_book.specs.Labels.{HasLeast}
use Rattle.label_book.proofs.Views.{labelled_at, unlabelled, must_stand, has_least}
use Rattle.label_book.proofs.book.LabelBook.label_of.Goals as goal

pub returns-in-Some-get-clause-value : goal.returns-in-Some-get-clause-value
returns-in-Some-get-clause-value c =
    rw (← c.self.view_is) (sym (labelled_at c.self.inside.places c.self.inside.clusters c.args.core c.in-Some.place.now c.in-Some-get.cluster.now (sym c.in-Some.ensures) (sym c.in-Some-get.ensures)))

pub returns-in-Some-get-clause-least : goal.returns-in-Some-get-clause-least
returns-in-Some-get-clause-least c = subst HasLeast c.self.view_is (has_least c.self.inside.places c.self.inside.clusters c.self.invariant)

pub returns-in-None-get-clause-value : goal.returns-in-None-get-clause-value
returns-in-None-get-clause-value c =
    absurd (must_stand c.self.inside.places c.self.inside.clusters c.self.invariant c.args.core c.in-Some.place.now (sym c.in-Some.ensures) (sym c.in-None-get.ensures))

pub returns-in-None-get-clause-least : goal.returns-in-None-get-clause-least
returns-in-None-get-clause-least c = subst HasLeast c.self.view_is (has_least c.self.inside.places c.self.inside.clusters c.self.invariant)

pub returns-in-None-clause-value : goal.returns-in-None-clause-value
returns-in-None-clause-value c = rw (← c.self.view_is) (sym (unlabelled c.self.inside.places c.self.inside.clusters c.args.core (sym c.in-None.ensures)))

pub returns-in-None-clause-least : goal.returns-in-None-clause-least
returns-in-None-clause-least c = subst HasLeast c.self.view_is (has_least c.self.inside.places c.self.inside.clusters c.self.invariant)
