use Rattle.std.proofs.Common.{◌∙◌, inl, inr, subst}
use Rattle.label_book.specs.Labels.{HasLeast}
use Rattle.label_book.proofs.Views.{has_least}
use Rattle.label_book.proofs.Parted.{cleared_kept, cleared_moved, not_both}
use Rattle.label_book.proofs.book.LabelBook.clear_out.Goals as goal

pub leave_groups-requires-clause-members : goal.leave_groups-requires-clause-members
leave_groups-requires-clause-members c q f = c.leave_but.ensures.others q (λ _ m. c.requires.apart q m f) ∙ c.requires.grouped_in q f

pub returns-then-is_among : goal.returns-then-is_among
returns-then-is_among c =
    cleared_moved c.args.self.now c.leave_but.new.self c.leave_groups.new.self c.leave_label.new.self c.args.label c.leave_label.result c.args.lost.now c.args.groups.now c.requires c.leave_but.ensures c.leave_groups.ensures
    (inl (c.is_among.ensures.0 c.if-is_among.true)) c.leave_label.ensures

pub returns-then-stands_in : goal.returns-then-stands_in
returns-then-stands_in c =
    cleared_moved c.args.self.now c.leave_but.new.self c.leave_groups.new.self c.leave_label-then-stands_in.new.self c.args.label c.leave_label-then-stands_in.result c.args.lost.now c.args.groups.now c.requires c.leave_but.ensures
    c.leave_groups.ensures (inr (c.stands_in.ensures.0 c.if-stands_in.true)) c.leave_label-then-stands_in.ensures

pub returns : goal.returns
returns c =
    cleared_kept c.args.self.now c.leave_but.new.self c.leave_groups.new.self c.args.label c.args.lost.now c.args.groups.now
    (subst HasLeast c.self.view_is (has_least c.self.inside.places c.self.inside.clusters c.self.invariant)) c.requires c.leave_but.ensures c.leave_groups.ensures
    (λ m. not_both c.is_among.result c.if-is_among.false (c.is_among.ensures.1 m)) (λ f. not_both c.stands_in.result c.if-stands_in.false (c.stands_in.ensures.1 f))
