use Rattle.std.proofs.Common.{sym, subst, inl, inr}
use Rattle.std.proofs.lemmas.Option.{slice_get-get_or}
use Rattle.label_book.specs.Labels.{IsMember}
use Rattle.label_book.proofs.book.LabelBook.largest.Goals as goal

pub loop-i-init : goal.loop-i-init
loop-i-init c = (0, slice_get-get_or c.args.labels.now 0 0 c.requires.some)

pub loop-i-preserved : goal.loop-i-preserved
loop-i-preserved c = elim c.larger-best.ensures [
  | inl s ↦ subst (IsMember c.args.labels.now) (sym s) c.loop-i.invariant
  | inr s ↦ subst (IsMember c.args.labels.now) (sym s) (c.loop-i.i, slice_get-get_or c.args.labels.now c.loop-i.i 0 c.loop-i-test.true)
]
