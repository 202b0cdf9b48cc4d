use Rattle.std.proofs.Common.{◌∙◌, Some, sym, ap, refl}
use Rattle.label_book.proofs.Views.{labelled_at, unlabelled, must_stand, no_value, same_value, member_labelled, holds_all, each_once, has_least}
use Rattle.label_book.proofs.book.LabelBook.members.Goals as goal

pub returns-then-cluster-label-clause-some : goal.returns-then-cluster-label-clause-some
returns-then-cluster-label-clause-some c =
    let has = labelled_at c.self.inside.places c.self.inside.clusters c.args.label c.in-Some.place.now c.in-Some-get.cluster.now (sym c.in-Some.ensures) (sym c.in-Some-get.ensures) in
    (λ _. rw (← c.self.view_is) (has ∙ ap (λ n. Some n) c.if-cluster-label.true), λ _. refl)

pub returns-then-cluster-label-clause-exact : goal.returns-then-cluster-label-clause-exact
returns-then-cluster-label-clause-exact c =
    let ps = c.self.inside.places in
    let cs = c.self.inside.clusters in
    rw (← c.self.view_is) (record {
      exact = λ core. (
        λ m. member_labelled ps cs c.self.invariant c.in-Some.place.now.cluster c.in-Some-get.cluster.now (sym c.in-Some-get.ensures) core m ∙ ap (λ n. Some n) c.if-cluster-label.true,
        λ has. holds_all ps cs c.self.invariant c.args.label c.in-Some.place.now c.in-Some-get.cluster.now (sym c.in-Some.ensures) (sym c.in-Some-get.ensures) core has,
      );
      once = each_once ps cs c.self.invariant c.in-Some.place.now.cluster c.in-Some-get.cluster.now (sym c.in-Some-get.ensures);
    })

pub returns-else-cluster-label-clause-some : goal.returns-else-cluster-label-clause-some
returns-else-cluster-label-clause-some c =
    let has = labelled_at c.self.inside.places c.self.inside.clusters c.args.label c.in-Some.place.now c.in-Some-get.cluster.now (sym c.in-Some.ensures) (sym c.in-Some-get.ensures) in
    rw (← c.self.view_is) (λ f. absurd (cc), λ h. absurd (c.if-cluster-label.false (same_value has h)))

pub returns-in-None-get-clause-some : goal.returns-in-None-get-clause-some
returns-in-None-get-clause-some c =
    absurd (must_stand c.self.inside.places c.self.inside.clusters c.self.invariant c.args.label c.in-Some.place.now (sym c.in-Some.ensures) (sym c.in-None-get.ensures))

pub returns-in-None-clause-some : goal.returns-in-None-clause-some
returns-in-None-clause-some c =
    let none = unlabelled c.self.inside.places c.self.inside.clusters c.args.label (sym c.in-None.ensures) in
    rw (← c.self.view_is) (λ f. absurd (cc), λ h. absurd (no_value none h))

pub returns-else-cluster-label-clause-none : goal.returns-else-cluster-label-clause-none
returns-else-cluster-label-clause-none c =
    let has = labelled_at c.self.inside.places c.self.inside.clusters c.args.label c.in-Some.place.now c.in-Some-get.cluster.now (sym c.in-Some.ensures) (sym c.in-Some-get.ensures) in
    rw (← c.self.view_is) (λ _ core h. c.if-cluster-label.false (same_value has (has_least c.self.inside.places c.self.inside.clusters c.self.invariant core c.args.label h).1))

pub returns-in-None-get-clause-none : goal.returns-in-None-get-clause-none
returns-in-None-get-clause-none c =
    absurd (must_stand c.self.inside.places c.self.inside.clusters c.self.invariant c.args.label c.in-Some.place.now (sym c.in-Some.ensures) (sym c.in-None-get.ensures))

pub returns-in-None-clause-none : goal.returns-in-None-clause-none
returns-in-None-clause-none c =
    let none = unlabelled c.self.inside.places c.self.inside.clusters c.args.label (sym c.in-None.ensures) in
    rw (← c.self.view_is) (λ _ core h. no_value none (has_least c.self.inside.places c.self.inside.clusters c.self.invariant core c.args.label h).1)
