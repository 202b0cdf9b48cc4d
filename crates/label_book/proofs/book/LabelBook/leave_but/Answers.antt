use Rattle.std.proofs.Common.{◌∙◌, sym, subst, get_or}
use Rattle.std.proofs.lemmas.List.{take_more}
use Rattle.std.proofs.lemmas.Option.{slice_get-get_or}
use Rattle.label_book.specs.inside.Steps.{IsWithout}
use Rattle.label_book.proofs.Founded.{next_new}
use Rattle.label_book.proofs.Parted.{left_more, left_none}
use Rattle.label_book.proofs.book.LabelBook.leave_but.Goals as goal

pub loop-i-init : goal.loop-i-init
loop-i-init c = left_none c.args.self.now c.args.label

pub leave_unless-requires : goal.leave_unless-requires
leave_unless-requires c =
    c.loop-i.invariant.others (get_or c.args.cores.now c.loop-i.i 0) (λ ne m. next_new c.args.cores.now c.loop-i.i c.loop-i-test.true c.requires.once m)
    ∙ c.requires.members (get_or c.args.cores.now c.loop-i.i 0) (c.loop-i.i, slice_get-get_or c.args.cores.now c.loop-i.i 0 c.loop-i-test.true)

pub loop-i-preserved : goal.loop-i-preserved
loop-i-preserved c =
    subst (λ ys. IsWithout c.args.self.now ys c.args.label c.leave_unless.new.self) (sym (take_more c.args.cores.now c.loop-i.i 0 c.loop-i-test.true))
    (left_more c.args.self.now c.loop-i.self c.leave_unless.new.self _ (get_or c.args.cores.now c.loop-i.i 0) c.args.label c.loop-i.invariant c.leave_unless.ensures)
