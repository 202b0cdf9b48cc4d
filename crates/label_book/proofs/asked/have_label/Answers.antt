use Rattle.std.proofs.Common.{◌≡◌, ◌∙◌, sym}
use Rattle.std.specs.FinMap as map
use Rattle.label_book.proofs.Checks.{member_more, same_label}
use Rattle.label_book.proofs.asked.have_label.Goals as goal

pub loop-i-preserved : goal.loop-i-preserved
loop-i-preserved c =
    member_more (λ q. map.get c.args.book.now q ≡ c.args.label) c.args.cores.now c.loop-i.i c.loop-i-test.true c.loop-i.invariant
    (sym c.label_of.ensures.value ∙ same_label c.ne.result c.label_of.result c.args.label c.ne.ensures c.if-ne.false)
