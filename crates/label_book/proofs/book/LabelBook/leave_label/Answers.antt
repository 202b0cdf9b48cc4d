use Rattle.std.proofs.Common.{◌∙◌, refl, ap, subst, is_some}
use Rattle.std.specs.FinMap as map
use Rattle.label_book.specs.inside.Kept.{labels_of}
use Rattle.label_book.specs.inside.Steps.{IsHeadless}
use Rattle.label_book.proofs.Left.{has_place, key_there, label_kept, label_headless}
use Rattle.label_book.proofs.book.LabelBook.leave_label.Goals as goal

pub take_out-key-requires-clause-known : goal.take_out-key-requires-clause-known
take_out-key-requires-clause-known c =
    has_place c.self.inside.places c.self.inside.clusters c.args.label (ap is_some (ap (λ m. map.get m c.args.label) c.self.view_is ∙ c.requires))

pub settle-requires : goal.settle-requires
settle-requires c =
    key_there c.self.inside.places c.take_out-key.new.places c.self.inside.clusters c.take_out-key.new.clusters c.args.label c.take_out-key.result c.take_out-key.ensures

pub invariant_of-self : goal.invariant_of-self
invariant_of-self c =
    label_kept c.self.inside.places c.take_out-key.new.places c.self.inside.clusters c.take_out-key.new.clusters c.args.label c.take_out-key.result c.self.invariant c.take_out-key.ensures
    c.args.label c.settle.result c.settle.new.clusters refl (ap (λ m. map.get m c.args.label) c.self.view_is ∙ c.requires) c.settle.ensures

pub returns : goal.returns
returns c =
    subst (λ m. IsHeadless m c.args.label c.settle.result (labels_of c.take_out-key.new.places c.settle.new.clusters)) c.self.view_is
    (label_headless c.self.inside.places c.take_out-key.new.places c.self.inside.clusters c.take_out-key.new.clusters c.args.label c.take_out-key.result c.self.invariant c.take_out-key.ensures
    c.args.label c.settle.result c.settle.new.clusters refl (ap (λ m. map.get m c.args.label) c.self.view_is ∙ c.requires) c.settle.ensures)
