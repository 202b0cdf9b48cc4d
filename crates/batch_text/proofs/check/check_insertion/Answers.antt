use Rattle.std.proofs.Common.{◌∙◌, sym}
use Rattle.std.proofs.lemmas.Result.{on_ok_weaker}
use Rattle.batch_text.proofs.Steps.{insertion_goes}
use Rattle.batch_text.proofs.check.check_insertion.Goals as goal

pub returns-clause-ok : goal.returns-clause-ok
returns-clause-ok c =
    on_ok_weaker c.mark.result
    (λ m now v h. insertion_goes c.args.records.now.vectors now c.args.standing.now c.mark.new.standing c.args.place c.args.cap c.args.number v m c.mark.ensures.count (sym c.has_number.ensures ∙ c.if-has_number.false) c.if-standing-cap.false h)
    c.mark.ensures.marks
