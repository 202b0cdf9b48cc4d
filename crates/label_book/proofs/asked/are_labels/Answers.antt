use Rattle.std.proofs.Common.{◌≡◌, ◌∙◌, Some, sym, get_or}
use Rattle.std.specs.FinMap as map
use Rattle.label_book.proofs.Checks.{member_more, same_label}
use Rattle.label_book.proofs.asked.are_labels.Goals as goal

pub loop-i-preserved : goal.loop-i-preserved
loop-i-preserved c =
    member_more (λ q. map.get c.args.book.now q ≡ Some q) c.args.labels.now c.loop-i.i c.loop-i-test.true c.loop-i.invariant
    (sym c.label_of.ensures.value ∙ same_label c.ne.result c.label_of.result (Some (get_or c.args.labels.now c.loop-i.i 0)) c.ne.ensures c.if-ne.false)
