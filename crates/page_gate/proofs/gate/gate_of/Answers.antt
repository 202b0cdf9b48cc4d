use Rattle.std.proofs.Common.{sym, ◌∙◌}
use Rattle.page_gate.proofs.Gates.{says_blank, says_foreign, says_set, says_closed, says_open_at, says_start_at, long_and, short_and, gate_shut, gate_opened}
use Rattle.page_gate.proofs.gate.gate_of.Goals as goal

pub returns-then-is_blank_by : goal.returns-then-is_blank_by
returns-then-is_blank_by c = sym (says_blank c.args.len c.args.first.now (sym c.is_blank_by.ensures ∙ c.if-is_blank_by.true))

pub returns-then-len-lt32768 : goal.returns-then-len-lt32768
returns-then-len-lt32768 c = sym (says_foreign c.args.len c.args.first.now (sym c.is_blank_by.ensures ∙ c.if-is_blank_by.false) (short_and c.args.len _ c.if-len-lt32768.true))

pub returns-then-not-is_signed : goal.returns-then-not-is_signed
returns-then-not-is_signed c = sym (says_foreign c.args.len c.args.first.now (sym c.is_blank_by.ensures ∙ c.if-is_blank_by.false) (long_and c.args.len _ _ c.if-len-lt32768.false (sym c.is_signed.ensures ∙ c.if-not-is_signed.true)))

pub returns-in-Some : goal.returns-in-Some
returns-in-Some c = sym (says_set c.args.len c.args.first.now c.in-Some.i (sym c.is_blank_by.ensures ∙ c.if-is_blank_by.false) (long_and c.args.len _ _ c.if-len-lt32768.false (sym c.is_signed.ensures ∙ c.if-not-is_signed.false)) (sym c.in-Some.ensures.place))

pub returns-then-first-ne1 : goal.returns-then-first-ne1
returns-then-first-ne1 c = sym (says_closed c.args.len c.args.first.now (sym c.is_blank_by.ensures ∙ c.if-is_blank_by.false) (long_and c.args.len _ _ c.if-len-lt32768.false (sym c.is_signed.ensures ∙ c.if-not-is_signed.false)) (sym c.in_default.ensures.place) (gate_shut c.args.first.now c.if-first-ne1.true))

pub returns-then-fits : goal.returns-then-fits
returns-then-fits c = sym (says_open_at c.args.len c.args.first.now _ _ (sym c.is_blank_by.ensures ∙ c.if-is_blank_by.false) (long_and c.args.len _ _ c.if-len-lt32768.false (sym c.is_signed.ensures ∙ c.if-not-is_signed.false)) (sym c.in_default.ensures.place) (gate_opened c.args.first.now c.if-first-ne1.false) c.number_8-start.ensures c.number_4-count.ensures (sym c.fits.ensures ∙ c.if-fits.true))

pub returns-else-fits : goal.returns-else-fits
returns-else-fits c = sym (says_start_at c.args.len c.args.first.now _ _ (sym c.is_blank_by.ensures ∙ c.if-is_blank_by.false) (long_and c.args.len _ _ c.if-len-lt32768.false (sym c.is_signed.ensures ∙ c.if-not-is_signed.false)) (sym c.in_default.ensures.place) (gate_opened c.args.first.now c.if-first-ne1.false) c.number_8-start.ensures c.number_4-count.ensures (sym c.fits.ensures ∙ c.if-fits.false))
