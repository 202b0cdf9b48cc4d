use Rattle.std.proofs.Common.{sym, subst}
use Rattle.std.proofs.lemmas.List.{take_all}
use Rattle.label_book.specs.Labels.{IsMember}
use Rattle.label_book.specs.Parting.{IsGrouped}
use Rattle.label_book.proofs.Parted.{not_both}
use Rattle.label_book.proofs.Checks.{member_more}
use Rattle.label_book.proofs.asked.is_fresh.Goals as goal

pub loop-i-preserved : goal.loop-i-preserved
loop-i-preserved c =
    member_more (λ q. (IsMember c.args.lost.now q → ⊥) × (IsGrouped c.args.earlier.now q → ⊥)) c.args.group.now c.loop-i.i c.loop-i-test.true c.loop-i.invariant
    (λ m. not_both c.is_among.result c.if-is_among.false (c.is_among.ensures.1 m), λ g. not_both c.stands_in.result c.if-stands_in.false (c.stands_in.ensures.1 g))

pub returns-clause-lost : goal.returns-clause-lost
returns-clause-lost c _ q m = (c.loop-i.invariant q (subst (λ ys. IsMember ys q) (sym (take_all c.loop-i.i c.args.group.now c.loop-i-test.false)) m)).0

pub returns-clause-earlier : goal.returns-clause-earlier
returns-clause-earlier c _ q m = (c.loop-i.invariant q (subst (λ ys. IsMember ys q) (sym (take_all c.loop-i.i c.args.group.now c.loop-i-test.false)) m)).1
