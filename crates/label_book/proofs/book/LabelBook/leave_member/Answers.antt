use Rattle.std.proofs.Common.{◌≡◌, ◌∙◌, Some, IsSome, sym, ap, subst}
use Rattle.std.specs.FinMap as map
use Rattle.label_book.proofs.Left.{has_place, member_kept, member_labels}
use Rattle.label_book.proofs.book.LabelBook.leave_member.Goals as goal

pub take_out-requires-clause-known : goal.take_out-requires-clause-known
take_out-requires-clause-known c = has_place c.self.inside.places c.self.inside.clusters c.args.core (subst (λ m. IsSome (map.get m c.args.core)) (sym c.self.view_is) c.requires.known)

pub invariant_of-self : goal.invariant_of-self
invariant_of-self c =
    member_kept c.self.inside.places c.take_out.new.places c.self.inside.clusters c.take_out.new.clusters c.args.core c.take_out.result c.self.invariant c.take_out.ensures
    (λ e. c.requires.other (subst (λ m. map.get m c.args.core ≡ Some c.args.core) c.self.view_is e))

pub returns : goal.returns
returns c =
    member_labels c.self.inside.places c.take_out.new.places c.self.inside.clusters c.take_out.new.clusters c.args.core c.take_out.result c.self.invariant c.take_out.ensures
    ∙ ap (λ m. map.remove m c.args.core) c.self.view_is
