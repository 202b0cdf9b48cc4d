use Rattle.std.proofs.Common.{◌∙◌, sym}
use Rattle.std.proofs.lemmas.Result.{on_ok_weaker}
use Rattle.batch_text.proofs.Steps.{deletion_goes}
use Rattle.batch_text.proofs.check.check_deletion.Goals as goal

pub returns-clause-ok : goal.returns-clause-ok
returns-clause-ok c =
    on_ok_weaker c.mark.result
    (λ m now h. deletion_goes c.args.records.now.vectors now c.args.standing.now c.mark.new.standing c.args.place c.args.cap c.args.number m (c.mark.ensures.count ∙ c.saturating_sub-standing.ensures) (sym c.has_number.ensures ∙ c.if-not-has_number.false) h)
    c.mark.ensures.marks
